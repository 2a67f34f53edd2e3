use Rattle.std.proofs.Common.{sym, ap, ◌∙◌}
use Rattle.client_calls.specs.Captures.{Captures}
use Rattle.service_state.proofs.Made.{held, makes_as, serving_as}
use Rattle.service_state.proofs.Sending.{drop_numbered}
use Rattle.service_state.proofs.Steps.{dropped}
use Rattle.service_state.proofs.state.ServiceState.drop_queued.Goals as goal

pub drop_first-requires-clause-numbered : goal.drop_first-requires-clause-numbered
drop_first-requires-clause-numbered c =
    let s = held c.self.inside in
    let serving = serving_as s c.args.self.now c.self.view_is c.requires in
    let made = dropped s serving c.in_ok-first.first c.next_frame-frame.result (sym c.if-not-is_stopping.ensures) (sym c.in_ok-first.ensures) c.next_frame-frame.ensures in
    drop_numbered s serving c.in_ok-first.first c.next_frame-frame.result c.next_frame-frame.ensures made.ready

pub invariant_of-self : goal.invariant_of-self
invariant_of-self c =
    let i = c.self.inside in
    let v = c.self.invariant in
    let noted = c.drop_first.ensures i.script c.in_ok-first.first.request c.in_ok-first.first.index c.next_frame-frame.result c.next_frame-frame.ensures in
    record {
      faults = v.faults;
      depth = v.depth;
      profile = v.profile;
      requests = ap (λ (q : Captures). q.room) noted ∙ v.requests;
      fence_room = v.fence_room;
      signal_room = v.signal_room;
      early_room = v.early_room;
      plan = v.plan;
      specs = v.specs;
      signallers = v.signallers;
    }

pub returns : goal.returns
returns c =
    let s = held c.self.inside in
    makes_as s c.args.self.now _ _ c.self.view_is c.requires (λ serving.
    rw (c.drop_first.ensures c.self.inside.script c.in_ok-first.first.request c.in_ok-first.first.index c.next_frame-frame.result c.next_frame-frame.ensures) (dropped s serving c.in_ok-first.first c.next_frame-frame.result (sym c.if-not-is_stopping.ensures) (sym c.in_ok-first.ensures) c.next_frame-frame.ensures))
