-- What a text of automatic exposure may ask for. (our own choice)
use Rattle.std.specs.Prelude.{ℕ, Bool, true, ◌&&◌, List, nat_le, sum_by}
use Rattle.std.specs.List.{list_all}
use Rattle.auto_call.specs.declared.stage.Stage.{Stage}
use Rattle.auto_call.specs.declared.stage.Stage.TheVariants.{Named, Aimed, Whole}
use Rattle.auto_call.specs.declared.text.AutoText.{AutoText}
use Rattle.auto_call.specs.declared.text.Scene.{Scene}

-- a number is in a range
abbrev pub is_between : ℕ → ℕ → ℕ → Bool
is_between low high n = nat_le low n && nat_le n high

abbrev pub is_scene : Scene → Bool
is_scene scene = nat_le scene.pattern 1 && (nat_le scene.level 255 && is_between 1 64 scene.frames)

-- the most frames of all scenes
abbrev pub frame_limit : ℕ
frame_limit = 64

-- the frames of the scenes
abbrev pub frames_of : List Scene → ℕ
frames_of scenes = sum_by (λ scene. scene.frames) scenes

abbrev pub is_target : ℕ → Bool
is_target target = is_between 16 240 target

abbrev pub is_iso : ℕ → Bool
is_iso iso = is_between 100 1600 iso

abbrev pub is_valid : AutoText → Bool
is_valid text =
    is_target text.target
    && (is_iso text.iso && (list_all is_scene text.scenes && nat_le (frames_of text.scenes) frame_limit))

-- what may stand after some lines
abbrev pub may_stand : Stage → Bool
may_stand Named = true
may_stand (Aimed target) = is_target target
may_stand (Whole text) = is_valid text
