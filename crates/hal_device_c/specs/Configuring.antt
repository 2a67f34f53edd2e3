-- How a list of streams is handed on.
use Rattle.std.specs.Prelude.{List, [], length, nat_lt, if◌then◌else◌}
use Rattle.cam_types.specs.declared.stream.StreamSpec.{StreamSpec}

-- more than four streams stand as none
abbrev pub configure_list : List StreamSpec → List StreamSpec
configure_list specs = if nat_lt 4 (length specs) then [] else specs
