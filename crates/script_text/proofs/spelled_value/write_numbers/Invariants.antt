use Rattle.std.proofs.Common.{◌≡◌, true, ◌++◌, take, map}
use Rattle.std.specs.Prelude.{string_bytes, decimal}
use Rattle.script_text.specs.Fits.{numbers_typed}
use Rattle.script_text.specs.Spelling.{behind_spaces}
use Rattle.script_text.proofs.spelled_value.write_numbers.Given as goal

abbrev pub invariant-loop-number : goal.invariant-loop-number
invariant-loop-number l = (string_bytes l.out ≡ string_bytes l.fn.out ++ behind_spaces (map decimal (take l.number-index l.numbers))) × (numbers_typed (take l.number-index l.numbers) ≡ true)
