use Rattle.std.proofs.Common.{inr, refl}
use Rattle.arbiter_call.proofs.call.DraftTextWork.answer_text.Goals as goal

pub returns-in-Ok : goal.returns-in-Ok
returns-in-Ok g c = inr (0, c.in-Ok.told.text.items, (refl, c.in-Ok.ensures), rw c.bytes.ensures at c.answer.ensures)
