-- What the reader of a text answers.
use Rattle.std.specs.Prelude.{ℕ, Result, Ok, Err, ◌≡◌}
use Rattle.hal_lines.specs.declared.cause.LineRefused.{LineRefused}
use Rattle.hal_lines.specs.declared.cause.LineRefused.TheVariants as line
use Rattle.hal_text.specs.declared.refused.LogRefused.{LogRefused}
use Rattle.hal_text.specs.declared.refused.LogRefused.TheVariants.{Bad, NoMemory}

-- the answer is what the text means, or that memory ran out
abbrev pub Answers : {A : Type 0} → Result A LogRefused → Result A LogRefused → Type 0
Answers (Ok x) meaning = meaning ≡ Ok x
Answers (Err (Bad line cause)) meaning = meaning ≡ Err (Bad line cause)
Answers (Err NoMemory) meaning = Unit {0}

-- a line's refusal with its number
abbrev pub refused : ℕ → LineRefused → LogRefused
refused n (line.Bad cause) = Bad n cause
refused n line.NoMemory = NoMemory
