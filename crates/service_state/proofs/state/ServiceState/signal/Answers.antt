use Rattle.std.proofs.Common.{◌≡◌, false, refl, sym, ap, ◌∙◌, length}
use Rattle.std.proofs.Common.{arith, not, nat_lt, slice_index_or}
use Rattle.std.proofs.lemmas.Bool.{and_parts}
use Rattle.std.proofs.lemmas.Bool.Decides.{nat_tests}
use Rattle.buffer_pool.specs.Fences.{FencesMade}
use Rattle.buffer_pool.specs.Pending.{Pending, stands}
use Rattle.service_state.specs.Serving.{unsignalled}
use Rattle.service_state.proofs.Made.{held, makes_as, not_true, stays_as}
use Rattle.service_state.proofs.Signallers.{kept_with, may_be_signalled, stands_first, without_first, without_none}
use Rattle.service_state.proofs.Steps.{not_signalled, signalled}
use Rattle.service_state.proofs.state.ServiceState.signal.Goals as goal

pub invariant_of-self : goal.invariant_of-self
invariant_of-self c =
    let i = c.self.inside in
    let v = c.self.invariant in
    let left = c.in_err-signaller.ensures.left in
    kept_with _ _ _ _ _ _ _ _ _ v refl (ap (λ (p : Pending). p.room) left) (ap (λ (p : Pending). p.numbers) left ∙ (without_none c.args.fence.0 i.signals.numbers (not_true (stands c.args.fence.0 i.signals.numbers) c.in_err-signaller.ensures.some.1) ∙ v.signallers))

pub returns-in_err-signaller : goal.returns-in_err-signaller
returns-in_err-signaller c =
    let i = c.self.inside in
    let s = held i in
    let none : stands c.args.fence.0 (unsignalled 0 i.fences.signalled) ≡ false = rw (sym c.self.invariant.signallers) (not_true (stands c.args.fence.0 i.signals.numbers) c.in_err-signaller.ensures.some.1) in
    rw c.from_residual.ensures (stays_as s c.args.self.now _ _ c.self.view_is refl (not_signalled s c.args.fence (sym (stands_first c.args.fence.0 i.fences.signalled) ∙ none)))

pub signal-number-requires : goal.signal-number-requires
signal-number-requires c =
    let i = c.self.inside in
    let told = c.in_ok-signaller.ensures in
    let may = may_be_signalled c.args.fence.0 i.fences.signalled i.signals.numbers c.self.invariant.signallers (told.some.0 refl) in
    let less = (and_parts (nat_lt c.args.fence.0 (length i.fences.signalled)) (not (slice_index_or i.fences.signalled c.args.fence.0 false)) may).0 in
    rw told.value (grind (arith, nat_tests, less))

pub invariant_of-self-2 : goal.invariant_of-self-2
invariant_of-self-2 c =
    let v = c.self.invariant in
    let told = c.in_ok-signaller.ensures in
    kept_with _ _ _ _ _ _ _ _ _ v (ap (λ (f : FencesMade). f.room) c.signal-number.ensures.signalled) (ap (λ (p : Pending). p.room) told.left) (rw (told.left, c.signal-number.ensures.signalled, told.value, v.signallers) (without_first c.args.fence.0 c.self.inside.fences.signalled))

pub returns : goal.returns
returns c =
    let i = c.self.inside in
    let told = c.in_ok-signaller.ensures in
    let may = may_be_signalled c.args.fence.0 i.fences.signalled i.signals.numbers c.self.invariant.signallers (told.some.0 refl) in
    makes_as (held i) c.args.self.now _ _ c.self.view_is c.requires (λ serving.
    rw (c.signal-number.ensures.signalled, told.value) (signalled (held i) serving c.args.fence may))
