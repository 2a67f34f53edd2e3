-- The line that refuses a text, for a person. (docs/FORMATS.md, hal log)
use Rattle.std.specs.Prelude.{ℕ, List, [], ◌∷◌, ◌++◌, codes, decimal}
use Rattle.hal_lines.specs.Causes.{number_of}
use Rattle.hal_lines.specs.declared.cause.Cause.{Cause}
use Rattle.hal_lines.specs.declared.cause.Cause.TheVariants.{Truncated, BadNumber, BadLine, TooLong}

abbrev pub cause_sentence : Cause → List ℕ
cause_sentence Truncated = codes "no line counts, and the first one that does is to be hal 1 K"
cause_sentence BadNumber = codes "a number isn't in its one spelling, or is out of its range"
cause_sentence BadLine = codes "the line is none of a hal log, or ends a call that never began"
cause_sentence TooLong = codes "the text has more than 134,217,728 bytes"

-- `refused hal LINE CAUSE: SENTENCE`; 10 is LF
unfoldable pub refused_text : ℕ → Cause → List ℕ
refused_text line cause =
    codes "refused hal " ++ (decimal line ++ (codes " " ++ (decimal (number_of cause) ++ (codes ": "
    ++ (cause_sentence cause ++ 10 ∷ [])))))
