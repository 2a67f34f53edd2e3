use Rattle.std.proofs.Common.{◌≡◌, ◌==◌, ◌∙◌, arith, length}
use Rattle.judge_rows.proofs.FenceLemmas.{all-marked}
use Rattle.judge_rows.proofs.fences.FenceBook.is_all_signalled.Goals as goal

pub returns : goal.returns
returns c =
    let empty : c.is_empty.result ≡ (length c.self.inside.waiting.items == 0) = grind arith in
    rw (← c.self.view_is) (empty ∙ all-marked c.self.inside.waiting.items c.self.inside.count c.self.invariant)
