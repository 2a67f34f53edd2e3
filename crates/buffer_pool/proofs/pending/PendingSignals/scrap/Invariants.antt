use Rattle.std.proofs.Common.{◌≡◌, true, length}
use Rattle.buffer_pool.specs.Fences.{made}
use Rattle.buffer_pool.specs.Pending.{are_below}
use Rattle.buffer_pool.proofs.pending.PendingSignals.scrap.Given as goal

abbrev pub invariant-loop-signaller : goal.invariant-loop-signaller
invariant-loop-signaller l = record {
  fences : l.fences ≡ l.initial.fences;
  made : are_below (made l.initial.fences) l.signallers.items ≡ true;
}

abbrev pub decreases-loop-signaller : goal.decreases-loop-signaller
decreases-loop-signaller l = length l.signallers.items
