-- What the readers answer.
use Rattle.std.specs.Prelude.{ℕ, Result, Ok, Err, ◌≡◌}
use Rattle.trace_reader.specs.declared.cause.Cause.{Cause}
use Rattle.trace_reader.specs.declared.cause.LineRefused.{LineRefused}
use Rattle.trace_reader.specs.declared.cause.LineRefused.TheVariants as line
use Rattle.trace_reader.specs.declared.cause.TraceRefused.{TraceRefused}
use Rattle.trace_reader.specs.declared.cause.TraceRefused.TheVariants.{Bad, NoMemory}

-- a reader's refusal is the grammar's, unless memory ran out
abbrev pub Refuses : {A : Type 0} → LineRefused → Result A Cause → Type 0
Refuses (line.Bad cause) read = read ≡ Err cause
Refuses line.NoMemory read = Unit {0}

-- a reader of a line answers what the grammar says, unless memory ran out
abbrev pub Gives : {A : Type 0} → Result A LineRefused → Result A Cause → Type 0
Gives (Ok x) read = read ≡ Ok x
Gives (Err refused) read = Refuses refused read

-- the answer is what the text means, or that memory ran out
abbrev pub AnswersTrace : {A : Type 0} → Result A TraceRefused → Result A TraceRefused → Type 0
AnswersTrace (Ok x) meaning = meaning ≡ Ok x
AnswersTrace (Err (Bad line cause)) meaning = meaning ≡ Err (Bad line cause)
AnswersTrace (Err NoMemory) meaning = Unit {0}

-- a line's refusal with its number
abbrev pub refused : ℕ → LineRefused → TraceRefused
refused n (line.Bad cause) = Bad n cause
refused n line.NoMemory = NoMemory
