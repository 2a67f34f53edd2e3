-- What a text means as clients of cameras: a function of the whole text. (docs/FORMATS.md, several clients)
use Rattle.std.specs.Prelude.{ℕ, List, [], ◌∷◌, ◌++◌, length, nat_lt, Option, Some, None, Result, Ok, Err, codes, if◌then◌else◌}
use Rattle.text_parts.specs.declared.cause.Cause.{Cause}
use Rattle.text_parts.specs.declared.cause.Cause.TheVariants.{Limit}
use Rattle.text_parts.specs.declared.cause.TextRefused.{TextRefused}
use Rattle.text_parts.specs.LineWords.{◌>>=◌}
use Rattle.arbiter_call.specs.declared.line.ArbiterLine.{ArbiterLine}
use Rattle.call_parts.specs.Reading.{Grammar, text_of}
use Rattle.arbiter_call.specs.declared.draft.Stage.{Stage}
use Rattle.arbiter_call.specs.declared.draft.Stage.TheVariants.{Named, Whole}
use Rattle.arbiter_call.specs.declared.text.ArbiterText.{ArbiterText}
use Rattle.arbiter_call.specs.Lines.{cameras_line, client_line}
use Rattle.arbiter_call.specs.Valid.{line_limit}

-- a text with one more line
abbrev pub added : ArbiterText → ArbiterLine → Result Stage Cause
added text line =
    if nat_lt (length text.lines) line_limit then Ok (Whole (record text { lines = text.lines ++ line ∷ [] }))
    else Err Limit

-- What stands after one more line behind the version line, by its first word and the words behind it: the cameras, and
-- then what clients ask.
unfoldable pub with_line : Stage → List ℕ → List (List ℕ) → Result Stage Cause
with_line Named word words =
    cameras_line word words >>= λ cameras. Ok (Whole (record { cameras = cameras; lines = [] }))
with_line (Whole text) word words = client_line text.cameras word words >>= added text

-- a text has its cameras
abbrev pub meant : Stage → Option ArbiterText
meant (Whole text) = Some text
meant Named = None

abbrev pub arbiter : Grammar Stage ArbiterText
arbiter = record { name = codes "arbiter"; begun = Named; with_line = with_line; meant = meant }

-- what a text asks for, or the first line that has a cause, with the first of its causes
abbrev pub arbiter_text_of : List ℕ → Result ArbiterText TextRefused
arbiter_text_of text = text_of arbiter text
