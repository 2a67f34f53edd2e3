-- What the readers of words, lines and texts answer.
use Rattle.std.specs.Prelude.{ℕ, Result, Ok, Err, ◌≡◌}
use Rattle.text_parts.specs.declared.cause.Cause.{Cause}
use Rattle.text_parts.specs.declared.cause.LineRefused.{LineRefused}
use Rattle.text_parts.specs.declared.cause.LineRefused.TheVariants as line
use Rattle.text_parts.specs.declared.cause.TextRefused.{TextRefused}
use Rattle.text_parts.specs.declared.cause.TextRefused.TheVariants.{Bad, NoMemory}

-- a reader's refusal is the grammar's, unless memory ran out
abbrev pub Refuses : {A : Type 0} → LineRefused → Result A Cause → Type 0
Refuses (line.Bad cause) read = read ≡ Err cause
Refuses line.NoMemory read = Unit {0}

-- a reader answers what the grammar says, unless memory ran out
abbrev pub Gives : {A : Type 0} → Result A LineRefused → Result A Cause → Type 0
Gives (Ok x) read = read ≡ Ok x
Gives (Err refused) read = Refuses refused read

abbrev pub GivesBy : {A B : Type 0} → (A → B) → Result A LineRefused → Result B Cause → Type 0
GivesBy view (Ok x) read = read ≡ Ok (view x)
GivesBy view (Err refused) read = Refuses refused read

-- the answer is what the text means, or that memory ran out
abbrev pub Answers : {A : Type 0} → Result A TextRefused → Result A TextRefused → Type 0
Answers (Ok x) meaning = meaning ≡ Ok x
Answers (Err (Bad line cause)) meaning = meaning ≡ Err (Bad line cause)
Answers (Err NoMemory) meaning = Unit {0}

-- a line's refusal with its number
abbrev pub refused : ℕ → LineRefused → TextRefused
refused n (line.Bad cause) = Bad n cause
refused n line.NoMemory = NoMemory
