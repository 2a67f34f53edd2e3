use Rattle.std.proofs.Common.{◌≡◌, [], false, Some, None, refl, sym, ap, subst, ◌∙◌}
use Rattle.client_calls.specs.Captures.{Captures}
use Rattle.buffer_manager.specs.Managed.{homes_with}
use Rattle.buffer_manager.specs.Taking.{least_targets_in}
use Rattle.state_facts.specs.Turns.{next_of}
use Rattle.run_rows.proofs.Sending.{fresh_is}
use Rattle.state_facts.specs.States.{targets_in}
use Rattle.trace_model.specs.Send.{targets_in_order}
use Rattle.service_parts.specs.Parts.{base}
use Rattle.service_parts.specs.Moves.{may_go_by, move_by}
use Rattle.cam_types.specs.declared.request.Queued.{Queued}
use Rattle.run_model.specs.declared.step.StepName.TheVariants.{Send}
use Rattle.service_state.specs.Serving.{Serving}
use Rattle.service_state.proofs.Made.{held, makes_as, stays_as}
use Rattle.service_state.proofs.Sending.{frame_is, no_buffer, none_taken, parked_of, same_targets, sending}
use Rattle.service_state.proofs.state.ServiceState.send.Goals as goal
use Rattle.basic_lemmas.proofs.Options.{is-none}

none_waits : (s : Serving) → next_of s.parts.queue ≡ None → move_by s.script s.parts Send ≡ None
none_waits s at = rw at refl

held_back : (s : Serving) (next : Queued) → next_of s.parts.queue ≡ Some next → may_go_by s.script s.parts next ≡ false → move_by s.script s.parts Send ≡ None
held_back s next at may = rw at (rw may refl)

pub returns-in_err-next : goal.returns-in_err-next
returns-in_err-next c =
    rw c.from_residual.ensures (stays_as (held c.self.inside) c.args.self.now _ _ c.self.view_is (sym c.self.view_is) (none_waits (held c.self.inside) (sym c.peek.ensures ∙ c.in_err-next.was)))

pub returns-then-not-may_go : goal.returns-then-not-may_go
returns-then-not-may_go c =
    let s = held c.self.inside in
    let next = c.in_ok-next.next in
    let may : may_go_by s.script s.parts next ≡ false = subst (λ (x : Serving). may_go_by x.script x.parts next ≡ false) (sym c.self.view_is) (sym c.if-not-may_go.ensures) in
    stays_as s c.args.self.now _ _ c.self.view_is (sym c.self.view_is) (held_back s next (sym c.in_ok-next.ensures) may)

pub returns-in_err-targets : goal.returns-in_err-targets
returns-in_err-targets c =
    let i = c.self.inside in
    let s = held i in
    let next = c.in_ok-next.next in
    let told = c.in_err-targets.ensures in
    let at : next_of i.captures.turns ≡ Some next = sym c.in_ok-next.ensures in
    let took : targets_in (base s.parts) (targets_in_order next.item) ≡ None = same_targets s.parts (targets_in_order next.item) ∙ none_taken (least_targets_in (homes_with [] i.buffers) (targets_in_order next.item)) told.targets in
    rw c.from_residual-in_err-targets.ensures (stays_as s c.args.self.now _ _ c.self.view_is (rw (told.unchanged refl) refl) (no_buffer s next at took))

pub invariant_of-self : goal.invariant_of-self
invariant_of-self c = rw (c.in_err-targets.ensures.unchanged refl) c.self.invariant

pub admit-requires-clause-room : goal.admit-requires-clause-room
admit-requires-clause-room c =
    let i = c.self.inside in
    let h = sending (held i) c.args.self.now c.self.view_is c.requires c.in_ok-next.next c.in_ok-targets.targets c.in_ok-next.ensures c.if-not-may_go.ensures c.in_ok-targets.ensures.targets in
    rw c.self.invariant.depth h.room

pub admit-requires-clause-later : goal.admit-requires-clause-later
admit-requires-clause-later c =
    let i = c.self.inside in
    let h = sending (held i) c.args.self.now c.self.view_is c.requires c.in_ok-next.next c.in_ok-targets.targets c.in_ok-next.ensures c.if-not-may_go.ensures c.in_ok-targets.ensures.targets in
    rw (c.fresh_row.ensures, frame_is c.next_frame-frame.result i.captures.turns.numbers c.next_frame-frame.ensures) h.above

pub admit-requires-clause-fresh : goal.admit-requires-clause-fresh
admit-requires-clause-fresh c = rw c.fresh_row.ensures (fresh_is c.in_ok-next.next.item.settings c.next_frame-frame.result c.in_ok-next.next.request c.in_ok-targets.targets)

pub admit-requires-clause-range : goal.admit-requires-clause-range
admit-requires-clause-range c =
    let i = c.self.inside in
    let h = sending (held i) c.args.self.now c.self.view_is c.requires c.in_ok-next.next c.in_ok-targets.targets c.in_ok-next.ensures c.if-not-may_go.ensures c.in_ok-targets.ensures.targets in
    rw c.fresh_row.ensures (is-none _ h.sound.range)

pub admit-requires-clause-streams : goal.admit-requires-clause-streams
admit-requires-clause-streams c =
    let i = c.self.inside in
    let h = sending (held i) c.args.self.now c.self.view_is c.requires c.in_ok-next.next c.in_ok-targets.targets c.in_ok-next.ensures c.if-not-may_go.ensures c.in_ok-targets.ensures.targets in
    rw (c.fresh_row.ensures, c.self.invariant.plan) h.sound.streams_rise

pub admit-requires-clause-some : goal.admit-requires-clause-some
admit-requires-clause-some c =
    let i = c.self.inside in
    let h = sending (held i) c.args.self.now c.self.view_is c.requires c.in_ok-next.next c.in_ok-targets.targets c.in_ok-next.ensures c.if-not-may_go.ensures c.in_ok-targets.ensures.targets in
    rw c.fresh_row.ensures h.sound.targets

pub admit-requires-clause-parked : goal.admit-requires-clause-parked
admit-requires-clause-parked c =
    let v = c.self.invariant in
    rw (c.fresh_row.ensures, v.plan, sym v.specs) (parked_of c.self.inside.buffers.specs c.in_ok-targets.targets c.in_ok-targets.parked c.in_ok-targets.ensures.parked)

pub send-requires-clause-some : goal.send-requires-clause-some
send-requires-clause-some c = rw (← c.in_ok-next.ensures) refl

pub send-requires-clause-numbered : goal.send-requires-clause-numbered
send-requires-clause-numbered c =
    let i = c.self.inside in
    let h = sending (held i) c.args.self.now c.self.view_is c.requires c.in_ok-next.next c.in_ok-targets.targets c.in_ok-next.ensures c.if-not-may_go.ensures c.in_ok-targets.ensures.targets in
    h.numbered

pub note-requires : goal.note-requires
note-requires c =
    let i = c.self.inside in
    let h = sending (held i) c.args.self.now c.self.view_is c.requires c.in_ok-next.next c.in_ok-targets.targets c.in_ok-next.ensures c.if-not-may_go.ensures c.in_ok-targets.ensures.targets in
    h.fits

pub invariant_of-self-2 : goal.invariant_of-self-2
invariant_of-self-2 c =
    let i = c.self.inside in
    let v = c.self.invariant in
    let noted = c.send.ensures i.script c.in_ok-next.next.request c.in_ok-next.next.index c.is_last.result c.in_ok-targets.targets c.next_frame-frame.result c.next_frame-frame.ensures in
    let told = c.in_ok-targets.ensures in
    record {
      faults = rw c.admit.ensures v.faults;
      depth = rw c.admit.ensures v.depth;
      profile = rw told.places v.profile;
      requests = ap (λ (q : Captures). q.room) noted ∙ v.requests;
      fence_room = v.fence_room;
      signal_room = v.signal_room;
      early_room = rw told.places v.early_room;
      plan = rw (c.admit.ensures, c.note.ensures) v.plan;
      specs = rw (told.places, c.note.ensures) v.specs;
      signallers = v.signallers;
    }

pub returns : goal.returns
returns c =
    let i = c.self.inside in
    let h = sending (held i) c.args.self.now c.self.view_is c.requires c.in_ok-next.next c.in_ok-targets.targets c.in_ok-next.ensures c.if-not-may_go.ensures c.in_ok-targets.ensures.targets in
    let noted = c.send.ensures i.script c.in_ok-next.next.request c.in_ok-next.next.index c.is_last.result c.in_ok-targets.targets c.next_frame-frame.result c.next_frame-frame.ensures in
    makes_as (held i) c.args.self.now _ _ c.self.view_is c.requires (λ serving'.
    rw (c.note.ensures, noted, c.in_ok-targets.ensures.places, c.admit.ensures, c.fresh_row.ensures, frame_is c.next_frame-frame.result i.captures.turns.numbers c.next_frame-frame.ensures, c.is_last.ensures) h.made)
