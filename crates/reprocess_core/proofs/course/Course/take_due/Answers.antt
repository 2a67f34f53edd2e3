use Rattle.std.proofs.Common.{arith}
use Rattle.reprocess_core.proofs.Room.{few-lines}
use Rattle.reprocess_core.proofs.course.Course.take_due.Goals as goal

pub take_due-requires : goal.take_due-requires
take_due-requires c =
    let few = few-lines c.self.inside.plan c.self.inside.lines.items c.self.invariant.valid c.self.invariant.run in
    rw c.as_slice.ensures.value (omega (arith, few))

pub returns : goal.returns
returns c = rw (← c.self.view_is) (rw c.as_slice.ensures.value at c.take_due.ensures)
