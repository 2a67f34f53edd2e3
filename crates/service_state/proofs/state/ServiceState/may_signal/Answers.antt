use Rattle.std.proofs.Common.{◌≡◌, ℕ, List, false, ◌&&◌, not, ap, ◌∙◌, length, nat_lt, slice_index_or, sym}
use Rattle.buffer_pool.specs.Pending.{stands}
use Rattle.run_model.specs.declared.step.StepName.TheVariants.{Signal}
use Rattle.service_state.proofs.Made.{held}
use Rattle.service_state.proofs.Readiness.{ready_as, signal_is}
use Rattle.service_state.proofs.Signallers.{stands_first}
use Rattle.service_state.proofs.state.ServiceState.may_signal.Goals as goal

pub returns : goal.returns
returns c =
    let i = c.self.inside in
    let s = held i in
    let f = c.args.fence.0 in
    let told : c.stands.result ≡ (nat_lt f (length i.fences.signalled) && not (slice_index_or i.fences.signalled f false)) = c.stands.ensures ∙ (ap (λ (ns : List ℕ). stands f ns) c.self.invariant.signallers ∙ stands_first f i.fences.signalled) in
    ready_as s c.args.self.now c.self.view_is (Signal c.args.fence) _ (told ∙ sym (signal_is s c.args.fence))
