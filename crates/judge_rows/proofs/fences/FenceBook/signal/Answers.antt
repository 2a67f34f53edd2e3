use Rattle.judge_rows.proofs.FenceLemmas.{given-out, marks-signalled}
use Rattle.judge_rows.proofs.fences.FenceBook.signal.Goals as goal

pub invariant_of-self : goal.invariant_of-self
invariant_of-self c = rw c.leave_out.ensures (given-out c.self.inside.waiting.items c.self.inside.count c.args.number c.self.invariant)

pub returns : goal.returns
returns c = rw (← c.self.view_is, c.leave_out.ensures) (marks-signalled c.self.inside.waiting.items c.self.inside.count c.args.number)
