use Rattle.trace_model.specs.declared.entry.Entry.TheVariants.{Begin}
use Rattle.service_state.proofs.Calls.{begins, client_fits, due_as}
use Rattle.service_state.proofs.Made.{held, makes_as}
use Rattle.service_state.proofs.state.ServiceState.begin.Goals as goal

pub note-requires : goal.note-requires
note-requires c = client_fits (held c.self.inside) (Begin c.args.word) (due_as _ _ c.self.view_is c.requires.serving _ c.requires.due)

pub invariant_of-self : goal.invariant_of-self
invariant_of-self c =
    let v = c.self.invariant in
    record {
      faults = rw c.stop_by.ensures v.faults;
      depth = rw c.stop_by.ensures v.depth;
      profile = v.profile;
      requests = v.requests;
      fence_room = v.fence_room;
      signal_room = v.signal_room;
      early_room = v.early_room;
      plan = rw (c.stop_by.ensures, c.note.ensures) v.plan;
      specs = rw c.note.ensures v.specs;
      signallers = v.signallers;
    }

pub returns-clause-made : goal.returns-clause-made
returns-clause-made c =
    makes_as (held c.self.inside) c.args.self.now _ _ c.self.view_is c.requires.serving (λ serving'.
    rw (c.note.ensures, c.stop_by.ensures) (begins (held c.self.inside) c.args.word (due_as _ _ c.self.view_is c.requires.serving _ c.requires.due)))
