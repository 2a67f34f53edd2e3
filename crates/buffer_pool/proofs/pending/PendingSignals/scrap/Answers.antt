use Rattle.std.proofs.Common.{refl, ◌∙◌}
use Rattle.buffer_pool.specs.Fences.{made}
use Rattle.buffer_pool.proofs.PendingLemmas.{all-last}
use Rattle.buffer_pool.proofs.pending.PendingSignals.scrap.Goals as goal

pub loop-signaller-init : goal.loop-signaller-init
loop-signaller-init c = record { fences = refl; made = rw (← c.self.view_is) at c.requires }

pub scrap_signaller-requires : goal.scrap_signaller-requires
scrap_signaller-requires c =
    let last = all-last (made c.args.fences.now) c.loop-signaller.signallers.items c.pop.new.self.items c.in-Some.signaller c.in-Some.ensures.items c.loop-signaller.invariant.made in
    rw c.loop-signaller.invariant.fences last.0

pub loop-signaller-preserved : goal.loop-signaller-preserved
loop-signaller-preserved c =
    let last = all-last (made c.args.fences.now) c.loop-signaller.signallers.items c.pop.new.self.items c.in-Some.signaller c.in-Some.ensures.items c.loop-signaller.invariant.made in record {
      fences = c.scrap_signaller.ensures ∙ c.loop-signaller.invariant.fences;
      made = last.1;
    }

pub returns : goal.returns
returns c = c.loop-signaller.invariant.fences
