-- What a text means as scenes: a function of the whole text. (docs/FORMATS.md, automatic exposure)
use Rattle.std.specs.Prelude.{ℕ, ◌+◌, List, [], ◌∷◌, ◌++◌, nat_lt, Option, Some, None, Result, Ok, Err, codes, if◌then◌else◌}
use Rattle.text_parts.specs.declared.cause.Cause.{Cause}
use Rattle.text_parts.specs.declared.cause.Cause.TheVariants.{Limit}
use Rattle.text_parts.specs.declared.cause.TextRefused.{TextRefused}
use Rattle.text_parts.specs.LineWords.{◌>>=◌}
use Rattle.call_parts.specs.Reading.{Grammar, text_of}
use Rattle.auto_call.specs.declared.stage.Stage.{Stage}
use Rattle.auto_call.specs.declared.stage.Stage.TheVariants.{Named, Aimed, Whole}
use Rattle.auto_call.specs.declared.text.AutoText.{AutoText}
use Rattle.auto_call.specs.declared.text.Scene.{Scene}
use Rattle.auto_call.specs.Lines.{target_line, iso_line, scene_line}
use Rattle.auto_call.specs.Valid.{frame_limit, frames_of}

-- a text with one more scene
abbrev pub added : AutoText → Scene → Result Stage Cause
added text scene =
    if nat_lt frame_limit (frames_of text.scenes + scene.frames) then Err Limit
    else Ok (Whole (record text { scenes = text.scenes ++ scene ∷ [] }))

-- What stands after one more line behind the version line, by its first word and the words behind it: the target, the
-- sensitivity, and then scenes.
unfoldable pub with_line : Stage → List ℕ → List (List ℕ) → Result Stage Cause
with_line Named word words = target_line word words >>= λ target. Ok (Aimed target)
with_line (Aimed target) word words =
    iso_line word words >>= λ iso. Ok (Whole (record { target = target; iso = iso; scenes = [] }))
with_line (Whole text) word words = scene_line word words >>= added text

-- a text has its target and its sensitivity
abbrev pub meant : Stage → Option AutoText
meant (Whole text) = Some text
meant _ = None

abbrev pub auto_text : Grammar Stage AutoText
auto_text = record { name = codes "auto"; begun = Named; with_line = with_line; meant = meant }

-- what a text asks for, or the first line that has a cause, with the first of its causes
abbrev pub auto_text_of : List ℕ → Result AutoText TextRefused
auto_text_of text = text_of auto_text text
