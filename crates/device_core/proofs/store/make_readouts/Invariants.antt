use Rattle.std.proofs.Common.{◌≡◌, ◌≤◌, length, vec_capacity}
use Rattle.device_core.proofs.store.make_readouts.Given as goal

abbrev pub invariant-loop : goal.invariant-loop
invariant-loop l = record { made : length l.readouts.items ≡ l.counter; room : l.count ≤ vec_capacity l.readouts }
