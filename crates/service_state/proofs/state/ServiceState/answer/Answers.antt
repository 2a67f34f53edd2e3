use Rattle.std.proofs.Common.{◌≡◌, false, sym, ◌∙◌}
use Rattle.trace_model.specs.declared.entry.Entry.TheVariants.{Call}
use Rattle.service_state.specs.Configuring.{is_configuration}
use Rattle.service_state.proofs.Calls.{can_take_at, client_fits, due_as, kind_has_room, plain_calls, same_streams}
use Rattle.service_state.proofs.Made.{held, makes_as}
use Rattle.service_state.proofs.state.ServiceState.answer.Goals as goal

pub take_call-requires-clause-place : goal.take_call-requires-clause-place
take_call-requires-clause-place c = can_take_at (held c.self.inside) c.args.index c.args.word c.args.reply (due_as _ _ c.self.view_is c.requires.serving _ c.requires.due)

pub take_call-requires-clause-room : goal.take_call-requires-clause-room
take_call-requires-clause-room c = λ submitted.
    rw c.self.invariant.requests (kind_has_room (held c.self.inside) c.args.index c.args.word c.args.reply (due_as _ _ c.self.view_is c.requires.serving _ c.requires.due) submitted)

pub note-requires : goal.note-requires
note-requires c = client_fits (held c.self.inside) (Call c.args.index c.args.word c.args.reply) (due_as _ _ c.self.view_is c.requires.serving _ c.requires.due)

pub invariant_of-self : goal.invariant_of-self
invariant_of-self c =
    let i = c.self.inside in
    let v = c.self.invariant in
    let other : is_configuration c.args.reply ≡ false = sym c.if-is_configuration.ensures in
    let streams = same_streams i.script c.args.index c.args.word c.args.reply i.client other in
    record {
      faults = v.faults;
      depth = v.depth;
      profile = v.profile;
      requests = c.take_call.ensures.room ∙ v.requests;
      fence_room = v.fence_room;
      signal_room = v.signal_room;
      early_room = v.early_room;
      plan = rw (c.note.ensures, streams) v.plan;
      specs = rw (c.note.ensures, streams) v.specs;
      signallers = v.signallers;
    }

pub returns-clause-made : goal.returns-clause-made
returns-clause-made c =
    let other : is_configuration c.args.reply ≡ false = sym c.if-is_configuration.ensures in
    let told = c.take_call.ensures in
    makes_as (held c.self.inside) c.args.self.now _ _ c.self.view_is c.requires.serving (λ serving'.
    rw (c.note.ensures, told.turns, told.kinds) (plain_calls (held c.self.inside) c.args.index c.args.word c.args.reply other (due_as _ _ c.self.view_is c.requires.serving _ c.requires.due)))
