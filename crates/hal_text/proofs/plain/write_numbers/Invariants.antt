use Rattle.std.proofs.Common.{◌≡◌, ◌++◌, take}
use Rattle.std.specs.Prelude.{string_bytes}
use Rattle.hal_text.specs.Plain.{behind_spaces}
use Rattle.hal_text.proofs.plain.write_numbers.Given as goal

abbrev pub invariant-loop-number : goal.invariant-loop-number
invariant-loop-number l =
    string_bytes l.out ≡ string_bytes l.initial.out ++ behind_spaces (take l.number-index l.numbers)
