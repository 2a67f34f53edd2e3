use Rattle.std.proofs.Common.{arith}
use Rattle.std.proofs.lemmas.Grind.{common_steps}
use Rattle.std.specs.Prelude.{vec_capacity}
use Rattle.reprocess_core.proofs.Room.{course-more, room-more}
use Rattle.reprocess_core.proofs.course.Course.add.Goals as goal

pub push_reserved-requires : goal.push_reserved-requires
push_reserved-requires c =
    let is = rw (← c.self.view_is) at c.requires in
    let room = room-more c.self.inside.plan c.self.inside.lines.items c.args.step c.args.line (vec_capacity c.self.inside.lines) c.self.invariant.valid c.self.invariant.run c.self.invariant.room is in
    omega (arith, room, c.self.inside.lines.ok.0)

pub invariant_of-self : goal.invariant_of-self
invariant_of-self c =
    let is = rw (← c.self.view_is) at c.requires in
    let more = course-more c.self.inside.plan c.self.inside.lines.items c.args.step c.args.line (vec_capacity c.self.inside.lines) c.self.invariant is in
    rw (c.push_reserved.ensures.items, c.push_reserved.ensures.capacity) more

pub returns : goal.returns
returns c = grind (arith, common_steps)
