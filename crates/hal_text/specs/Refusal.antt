-- The line that refuses a text. (docs/FORMATS.md)
use Rattle.std.specs.Prelude.{ℕ, List, [], ◌∷◌, codes, decimal}
use Rattle.hal_lines.specs.declared.cause.Cause.{Cause}
use Rattle.hal_lines.specs.Causes.{number_of}
use Rattle.text_parts.specs.Lines.{line_text}

-- `refused hal LINE CAUSE`
abbrev pub refused_text : ℕ → Cause → List ℕ
refused_text line cause = line_text (codes "refused" ∷ codes "hal" ∷ decimal line ∷ decimal (number_of cause) ∷ [])
