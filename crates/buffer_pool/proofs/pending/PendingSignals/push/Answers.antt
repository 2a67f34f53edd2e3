use Rattle.std.proofs.Common.{arith, ℕ, ap, List, length}
use Rattle.std.proofs.lemmas.List.{length_push}
use Rattle.buffer_pool.proofs.PendingLemmas.{ascends-push}
use Rattle.buffer_pool.proofs.pending.PendingSignals.push.Goals as goal

pub invariant_of-self : goal.invariant_of-self
invariant_of-self c =
    let later = rw (← c.self.view_is) at c.requires.later in
    let room = rw (← c.self.view_is) at c.requires.room in
    let more = length_push c.self.inside.signallers.items c.args.signaller in
    let len = ap (λ (z : List ℕ). length z) c.push_reserved.ensures.items in
    let same = c.push_reserved.ensures.capacity in
    let kept = c.self.invariant.room in record {
      order = rw c.push_reserved.ensures.items (ascends-push c.self.inside.signallers.items c.args.signaller c.self.invariant.order later);
      few = omega (arith, room, more, len);
      room = omega (arith, kept, same);
      fits = c.self.invariant.fits;
    }
