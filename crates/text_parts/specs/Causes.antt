-- The numbers of causes. (docs/FORMATS.md)
use Rattle.std.specs.Prelude.{ℕ}
use Rattle.text_parts.specs.declared.cause.Cause.{Cause}
use Rattle.text_parts.specs.declared.cause.Cause.TheVariants.{NotAscii, Version, UnknownWord, BadNumber, Missing, Extra, Limit, FaultAfterCommand}

-- the number of a cause
abbrev pub number_of : Cause → ℕ
number_of NotAscii = 31
number_of Version = 32
number_of UnknownWord = 33
number_of BadNumber = 34
number_of Missing = 35
number_of Extra = 36
number_of Limit = 37
number_of FaultAfterCommand = 38
