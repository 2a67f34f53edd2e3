use Rattle.std.proofs.Common.{◌≡◌, inr, arith}
use Rattle.call_parts.proofs.status.answer_made.Goals as goal

pub returns-in-Ok : goal.returns-in-Ok
returns-in-Ok g c text is = let e : c.as_slice.result.now ≡ text = grind arith in inr (rw e at c.answer.ensures)
