-- What automatic exposure finds in its scenes, by their least steps alone, and the script of its frames.
-- (docs/FORMATS.md, automatic exposure)
use Rattle.std.specs.Prelude.{ℕ, ◌+◌, List, [], ◌∷◌, ◌++◌, map}
use Rattle.std.specs.List.{flat_map, range_with_len}
use Rattle.auto_call.specs.Brightness.{at_step, least}
use Rattle.auto_call.specs.Search.{searched, state_of, step_of}
use Rattle.auto_call.specs.OutputLines.{end_line, frame_line}
use Rattle.auto_call.specs.declared.output_line.AutoLine.{AutoLine}
use Rattle.cam_types.specs.declared.item.Settings.{Settings}
use Rattle.cam_types.specs.declared.script.Command.{Command}
use Rattle.cam_types.specs.declared.script.Command.TheVariants.{Configure, Once, Close}
use Rattle.cam_types.specs.declared.script.Script.{Script}
use Rattle.call_parts.specs.OwnScripts.{for_first_stream, plain_script, small_stream}
use Rattle.auto_call.specs.declared.text.AutoText.{AutoText}
use Rattle.auto_call.specs.declared.text.Scene.{Scene}

-- the settings of a scene's frames, but for their exposure
abbrev pub settings_of : ℕ → Scene → Settings
settings_of iso scene = record { pattern = scene.pattern; level = scene.level; exposure = 100000; iso = iso }

-- the settings of frame i of a scene, counted from 0: at the step of the search after the frames before
unfoldable pub shot : ℕ → Settings → ℕ → Settings
shot target s i = at_step s (step_of (searched (least s target) i))

-- the settings of a scene's frames
abbrev pub scene_shots : ℕ → Settings → ℕ → List Settings
scene_shots target s frames = map (shot target s) (range_with_len 0 frames)

-- the lines of scene k, whose first frame has the number `first`
abbrev pub scene_lines : ℕ → Settings → ℕ → ℕ → ℕ → List AutoLine
scene_lines target s first k frames =
    map (λ i. frame_line (first + i) (shot target s i)) (range_with_len 0 frames)
    ++ end_line k (state_of (searched (least s target) frames)) ∷ []

-- the settings of all frames
abbrev pub shots_of : AutoText → List Settings
shots_of text = flat_map (λ scene. scene_shots text.target (settings_of text.iso scene) scene.frames) text.scenes

-- the lines of the scenes from number k on, whose first frame has the number `first`
abbrev pub lines_from : ℕ → ℕ → ℕ → ℕ → List Scene → List AutoLine
lines_from target iso first k [] = []
lines_from target iso first k (scene ∷ scenes) =
    scene_lines target (settings_of iso scene) first k scene.frames
    ++ lines_from target iso (first + scene.frames) (k + 1) scenes

-- the lines of all frames and scenes
abbrev pub lines_of : AutoText → List AutoLine
lines_of text = lines_from text.target text.iso 0 0 text.scenes

-- `once` of the settings for stream 0
abbrev pub once : Settings → Command
once s = Once (for_first_stream s)

-- the script of frames with these settings: a configuration, one capture for each, and a `close`
unfoldable pub script_of : List Settings → Script
script_of shots = plain_script (Configure small_stream ∷ map once shots ++ Close ∷ [])
