use Rattle.std.specs.Prelude.{ℕ, Result, Ok, Err}
use Rattle.call_parts.specs.Status.{status_number}
use Rattle.call_parts.specs.declared.status.Status.{Status}

-- the number that a program ends with: the status's, or that of want of memory (our own choice)
abbrev pub number_of : {E : Type 0} → Result Status E → ℕ
number_of (Ok status) = status_number status
number_of (Err _) = 5
