use Rattle.std.proofs.Common.{◌≡◌, ◌∷◌, ◌++◌, [], arith}
use Rattle.judge_rows.proofs.FenceLemmas.{given-more, length-marks, marks-given}
use Rattle.judge_rows.proofs.fences.FenceBook.give.Goals as goal

pub overflow_add-self : goal.overflow_add-self
overflow_add-self c =
    let few = rw (← c.self.view_is) at c.requires in
    omega (arith, few, length-marks c.self.inside.waiting.items c.self.inside.count)

pub invariant_of-self-2 : goal.invariant_of-self-2
invariant_of-self-2 c =
    let items : c.push.new.self.items ≡ c.self.inside.waiting.items ++ c.self.inside.count ∷ [] = grind arith in
    rw items (given-more c.self.inside.waiting.items c.self.inside.count c.self.invariant)

pub returns : goal.returns
returns c =
    let items : c.push.new.self.items ≡ c.self.inside.waiting.items ++ c.self.inside.count ∷ [] = grind arith in
    rw (← c.self.view_is, items) (marks-given c.self.inside.waiting.items c.self.inside.count)
