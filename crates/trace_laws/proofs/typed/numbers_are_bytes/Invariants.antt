use Rattle.std.proofs.Common.{◌≡◌, true, take}
use Rattle.trace_laws.specs.Typed.{are_bytes}
use Rattle.trace_laws.proofs.typed.numbers_are_bytes.Given as goal

abbrev pub invariant-loop-number : goal.invariant-loop-number
invariant-loop-number l = are_bytes (take l.number-index l.numbers) ≡ true
