use Rattle.std.proofs.Common.{◌≡◌, replicate}
use Rattle.play_calls.proofs.command.copies.Given as goal

abbrev pub invariant-loop : goal.invariant-loop
invariant-loop l = l.items ≡ replicate l.counter l.item
