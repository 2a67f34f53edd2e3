use Rattle.std.proofs.Common.{arith}
use Rattle.reprocess_core.proofs.Room.{few-lines}
use Rattle.reprocess_core.proofs.course.Course.drop_due.Goals as goal

pub drop_due-requires : goal.drop_due-requires
drop_due-requires c =
    let few = few-lines c.self.inside.plan c.self.inside.lines.items c.self.invariant.valid c.self.invariant.run in
    rw c.as_slice.ensures.value (omega (arith, few))
