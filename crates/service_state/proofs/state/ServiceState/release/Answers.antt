use Rattle.std.proofs.Common.{◌≡◌, ◌<◌, true, refl, sym, ◌∙◌, length}
use Rattle.std.proofs.Common.{arith}
use Rattle.cam_types.specs.declared.number.BufferId.{BufferId}
use Rattle.cam_types.specs.declared.number.FenceNo.{FenceNo}
use Rattle.trace_laws.specs.Bounds.{fence_bound}
use Rattle.buffer_manager.specs.Managed.{may_be_released}
use Rattle.service_state.specs.Serving.{IsServing, Serving}
use Rattle.service_state.specs.declared.state.ServiceState.TheInside.{Inside}
use Rattle.service_state.proofs.Made.{held, makes_as, serving_as}
use Rattle.service_state.proofs.Room.{release_has_room}
use Rattle.service_state.proofs.Signallers.{below_first, no_more, with_first}
use Rattle.service_state.proofs.Steps.{released}
use Rattle.service_state.proofs.state.ServiceState.release.Goals as goal

-- there is room for one more fence
room-of : (i : Inside) (s : Serving) → held i ≡ s → IsServing s → (b : BufferId) → may_be_released i.buffers b.0 ≡ true → length i.fences.signalled < fence_bound i.script
room-of i s same serving' b may =
    let serving = serving_as (held i) s same serving' in
    let next : FenceNo = record { 0 = length i.fences.signalled } in
    release_has_room (held i) serving b next (released (held i) serving b may next refl).ready

pub make_in-signaller-requires : goal.make_in-signaller-requires
make_in-signaller-requires c = rw c.self.invariant.fence_room (room-of c.self.inside c.args.self.now c.self.view_is c.requires c.args.buffer (sym c.if-not-may_release.ensures))

pub push-requires-clause-later : goal.push-requires-clause-later
push-requires-clause-later c =
    let i = c.self.inside in
    rw (c.make_in-signaller.ensures.signaller, c.self.invariant.signallers) (below_first i.fences.signalled)

pub push-requires-clause-room : goal.push-requires-clause-room
push-requires-clause-room c =
    let room = room-of c.self.inside c.args.self.now c.self.view_is c.requires c.args.buffer (sym c.if-not-may_release.ensures) in
    let few = no_more 0 c.self.inside.fences.signalled in
    rw (c.self.invariant.signal_room, c.self.invariant.signallers) (omega (arith, few, room))

pub invariant_of-self : goal.invariant_of-self
invariant_of-self c =
    let i = c.self.inside in
    let v = c.self.invariant in
    record {
      faults = v.faults;
      depth = v.depth;
      profile = rw c.release.ensures v.profile;
      requests = v.requests;
      fence_room = rw c.make_in-signaller.ensures.made v.fence_room;
      signal_room = rw c.push.ensures v.signal_room;
      early_room = rw c.release.ensures v.early_room;
      plan = v.plan;
      specs = rw c.release.ensures v.specs;
      signallers = rw (c.push.ensures, c.make_in-signaller.ensures.made, c.make_in-signaller.ensures.signaller, v.signallers) (sym (with_first i.fences.signalled));
    }

pub returns : goal.returns
returns c =
    let s = held c.self.inside in
    let may : may_be_released c.self.inside.buffers c.args.buffer.0 ≡ true = sym c.if-not-may_release.ensures in
    makes_as s c.args.self.now _ _ c.self.view_is c.requires (λ serving.
    rw (c.release.ensures, c.make_in-signaller.ensures.made, sym c.number.ensures) (released s serving c.args.buffer may (record { 0 = c.number.result }) (c.number.ensures ∙ c.make_in-signaller.ensures.waiter)))
