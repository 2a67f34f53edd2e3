use Rattle.service_core.proofs.Keeping.{note_answers, note_keeps, note_room, serves}
use Rattle.service_core.proofs.service.Service.client.Goals as goal

pub client-entry-requires : goal.client-entry-requires
client-entry-requires c = serves c.self.inside.state c.self.inside.log c.self.invariant

pub note-requires-clause-room : goal.note-requires-clause-room
note-requires-clause-room c = note_room c.self.inside.state _ c.self.inside.log _ _ c.self.invariant c.client-entry.ensures

pub invariant_of-self : goal.invariant_of-self
invariant_of-self c =
    rw c.note.ensures.log (note_keeps c.self.inside.state _ c.self.inside.log _ _ c.self.invariant c.client-entry.ensures)

pub returns : goal.returns
returns c =
    rw (← c.self.view_is, c.note.ensures.answer, c.note.ensures.log) (note_answers c.self.inside.state _ c.self.inside.log _ _ c.self.invariant c.client-entry.ensures)
