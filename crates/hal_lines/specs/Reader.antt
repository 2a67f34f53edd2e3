-- What the readers of a line answer.
use Rattle.std.specs.Prelude.{Bool, true, Result, Ok, Err, ◌≡◌}
use Rattle.hal_lines.specs.declared.cause.Cause.{Cause}
use Rattle.hal_lines.specs.declared.cause.LineRefused.{LineRefused}
use Rattle.hal_lines.specs.declared.cause.LineRefused.TheVariants as line
use Rattle.hal_lines.specs.declared.kind.Ending.{Ending}
use Rattle.hal_lines.specs.declared.kind.Ending.TheVariants as ending
use Rattle.hal_model.specs.Fits.{error_fits}

-- a reader's refusal is the definition's, unless memory ran out
abbrev pub Refuses : {A : Type 0} → LineRefused → Result A Cause → Type 0
Refuses (line.Bad cause) read = read ≡ Err cause
Refuses line.NoMemory read = Unit {0}

-- a reader of a line answers what the line means, unless memory ran out
abbrev pub GivesBy : {A B : Type 0} → (A → B) → Result A LineRefused → Result B Cause → Type 0
GivesBy view (Ok x) read = read ≡ Ok (view x)
GivesBy view (Err refused) read = Refuses refused read

abbrev pub Gives : {A : Type 0} → Result A LineRefused → Result A Cause → Type 0
Gives (Ok x) read = read ≡ Ok x
Gives (Err refused) read = Refuses refused read

-- an error with which a call ends has its name
abbrev pub is_ending_valid : Ending → Bool
is_ending_valid ending.Ok = true
is_ending_valid (ending.Error error) = error_fits error
