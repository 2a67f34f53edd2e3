-- The numbers of causes. (docs/FORMATS.md)
use Rattle.std.specs.Prelude.{ℕ}
use Rattle.hal_lines.specs.declared.cause.Cause.{Cause}
use Rattle.hal_lines.specs.declared.cause.Cause.TheVariants.{Truncated, BadNumber, BadLine, TooLong}

-- the number of a cause
abbrev pub number_of : Cause → ℕ
number_of Truncated = 41
number_of BadNumber = 42
number_of BadLine = 43
number_of TooLong = 45
