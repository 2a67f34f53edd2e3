-- What can be drawn: settings in their range, and a format and size that are offered.
use Rattle.std.specs.Prelude.{Bool, ◌&&◌, List, is_none}
use Rattle.std.specs.List.{list_all}
use Rattle.cam_types.specs.Metadata.{range_fault}
use Rattle.cam_types.specs.Picture.{is_offered}
use Rattle.video_call.specs.declared.shot.Shot.{Shot}

abbrev pub is_drawable : Shot → Bool
is_drawable shot = is_none (range_fault shot.settings) && is_offered shot.spec

abbrev pub are_drawable : List Shot → Bool
are_drawable shots = list_all is_drawable shots
