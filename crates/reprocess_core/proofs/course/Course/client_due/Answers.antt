use Rattle.std.proofs.Common.{arith}
use Rattle.reprocess_core.proofs.Room.{few-lines}
use Rattle.reprocess_core.proofs.course.Course.client_due.Goals as goal

pub client_due-requires : goal.client_due-requires
client_due-requires c =
    let few = few-lines c.self.inside.plan c.self.inside.lines.items c.self.invariant.valid c.self.invariant.run in
    rw c.as_slice.ensures.value (omega (arith, few))
