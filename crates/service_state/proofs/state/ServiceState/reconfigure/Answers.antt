use Rattle.std.proofs.Common.{◌≡◌, refl, ap, ◌∙◌}
use Rattle.trace_model.specs.declared.entry.Entry.TheVariants.{Call}
use Rattle.trace_model.specs.Configuration.{streams_of}
use Rattle.service_state.proofs.Calls.{buffers_have_room, can_take_at, client_fits, due_as, reconfiguring}
use Rattle.request_checks.proofs.Accepted.{few_specs}
use Rattle.service_state.proofs.Made.{held, makes_as, serving_as}
use Rattle.service_state.proofs.Opening.{profile_of}
use Rattle.service_state.proofs.Planning.{planned_specs}
use Rattle.service_state.proofs.Room.{home_given}
use Rattle.service_state.proofs.state.ServiceState.reconfigure.Goals as goal

pub configure-requires-clause-accepted : goal.configure-requires-clause-accepted
configure-requires-clause-accepted c =
    let it = reconfiguring (held c.self.inside) c.args.index c.args.word c.args.reply c.requires.accepted (due_as _ _ c.self.view_is c.requires.serving _ c.requires.due) in
    rw it.1.command it.1.accepted

pub configure-requires-clause-profile : goal.configure-requires-clause-profile
configure-requires-clause-profile c = profile_of c.self.inside.script (serving_as (held c.self.inside) c.args.self.now c.self.view_is c.requires.serving).valid

pub configure-requires-clause-rest : goal.configure-requires-clause-rest
configure-requires-clause-rest c =
    let it = reconfiguring (held c.self.inside) c.args.index c.args.word c.args.reply c.requires.accepted (due_as _ _ c.self.view_is c.requires.serving _ c.requires.due) in
    it.1.rest

pub configure-requires-clause-home : goal.configure-requires-clause-home
configure-requires-clause-home c =
    let it = reconfiguring (held c.self.inside) c.args.index c.args.word c.args.reply c.requires.accepted (due_as _ _ c.self.view_is c.requires.serving _ c.requires.due) in
    it.1.home

pub configure-requires-clause-given : goal.configure-requires-clause-given
configure-requires-clause-given c = home_given (held c.self.inside) (serving_as (held c.self.inside) c.args.self.now c.self.view_is c.requires.serving)

pub configure-requires-clause-numbered : goal.configure-requires-clause-numbered
configure-requires-clause-numbered c = buffers_have_room (held c.self.inside) (serving_as (held c.self.inside) c.args.self.now c.self.view_is c.requires.serving)

pub take_call-requires-clause-place : goal.take_call-requires-clause-place
take_call-requires-clause-place c = can_take_at (held c.self.inside) c.args.index c.args.word c.args.reply (due_as _ _ c.self.view_is c.requires.serving _ c.requires.due)

pub note-requires : goal.note-requires
note-requires c = client_fits (held c.self.inside) (Call c.args.index c.args.word c.args.reply) (due_as _ _ c.self.view_is c.requires.serving _ c.requires.due)

pub invariant_of-self : goal.invariant_of-self
invariant_of-self c =
    let it = reconfiguring (held c.self.inside) c.args.index c.args.word c.args.reply c.requires.accepted (due_as _ _ c.self.view_is c.requires.serving _ c.requires.due) in
    let v = c.self.invariant in
    let told = c.configure.ensures in
    let specs : streams_of (Rattle.trace_model.specs.Calls.command_at c.self.inside.script c.args.index) ≡ it.0 = ap streams_of it.1.command in
    record {
      faults = rw told.device v.faults;
      depth = rw told.device v.depth;
      profile = rw told.buffers v.profile;
      requests = c.take_call.ensures.room ∙ v.requests;
      fence_room = rw told.fences v.fence_room;
      signal_room = v.signal_room;
      early_room = rw told.buffers v.early_room;
      plan = rw (told.device, c.note.ensures, it.1.streams, specs) (planned_specs c.self.inside.script.profile it.0 (few_specs it.0 it.1.accepted));
      specs = rw (told.buffers, c.note.ensures, it.1.streams, specs) refl;
      signallers = rw told.fences v.signallers;
    }

pub returns-clause-made : goal.returns-clause-made
returns-clause-made c =
    let it = reconfiguring (held c.self.inside) c.args.index c.args.word c.args.reply c.requires.accepted (due_as _ _ c.self.view_is c.requires.serving _ c.requires.due) in
    let v = c.self.invariant in
    let told = c.configure.ensures in
    let specs : streams_of (Rattle.trace_model.specs.Calls.command_at c.self.inside.script c.args.index) ≡ it.0 = ap streams_of it.1.command in
    makes_as (held c.self.inside) c.args.self.now _ _ c.self.view_is c.requires.serving (λ serving'.
    rw (c.note.ensures, c.take_call.ensures.turns, c.take_call.ensures.kinds, told.device, told.fences, told.buffers, specs) (it.1.made _ _ (rw v.profile refl) (rw v.profile refl)))
