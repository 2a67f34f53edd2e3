-- Whether an input is a hal log. (docs/FORMATS.md, Hal log)
use Rattle.std.specs.Prelude.{ℕ, Bool, false, List, [], ◌∷◌, Option, Some, None, codes, bytes_eq, if◌then◌else◌}
use Rattle.text_parts.specs.LineReading.{is_comment}
use Rattle.text_parts.specs.Lines.{lines_of}
use Rattle.text_parts.specs.Words.{loose_words}

-- what a line says of it, by its words: one of spaces alone, or a comment, nothing; any other whether its first word is
-- `hal`
abbrev pub said_by : List (List ℕ) → Option Bool
said_by [] = None
said_by (word ∷ words) = if is_comment word then None else Some (bytes_eq word (codes "hal"))

abbrev pub or_else : Option Bool → Bool → Bool
or_else (Some b) rest = b
or_else None rest = rest

-- the first line that says something decides
abbrev pub begins_hal : List (List ℕ) → Bool
begins_hal [] = false
begins_hal (line ∷ lines) = or_else (said_by (loose_words line)) (begins_hal lines)

unfoldable pub is_hal : List ℕ → Bool
is_hal input = begins_hal (lines_of input)
