use Rattle.std.proofs.Common.{refl}
use Rattle.run_model.proofs.Lengths.{added-silent, kept-silent, room-left}
use Rattle.run_model.proofs.log.RoomLog.push_silent.Goals as goal

pub invariant_of-self : goal.invariant_of-self
invariant_of-self c =
    let room = rw (← c.self.view_is) at c.requires.room in
    let less = room-left c.self.inside.steps.items c.self.inside.entries.items c.self.inside.limit room in
    let kept = kept-silent c.args.step c.self.inside.steps.items c.self.inside.entries.items c.self.inside.limit _ _ c.requires.silent less c.self.invariant in
    rw (c.push_reserved.ensures.items, c.push_reserved.ensures.capacity) kept

pub returns : goal.returns
returns c =
    rw (← c.self.view_is, c.push_reserved.ensures.items, added-silent c.args.step c.self.inside.steps.items c.self.inside.entries.items c.requires.silent) refl
