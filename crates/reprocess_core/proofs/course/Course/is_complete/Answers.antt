use Rattle.std.proofs.Common.{arith}
use Rattle.reprocess_core.proofs.Room.{few-lines}
use Rattle.reprocess_core.proofs.course.Course.is_complete.Goals as goal

pub least_queued-requires : goal.least_queued-requires
least_queued-requires c =
    let few = few-lines c.self.inside.plan c.self.inside.lines.items c.self.invariant.valid c.self.invariant.run in
    rw c.as_slice-lines.ensures.value (omega (arith, few))
