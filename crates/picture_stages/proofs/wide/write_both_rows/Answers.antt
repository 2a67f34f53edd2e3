use Rattle.std.proofs.Common.{◌≡◌, ◌+◌, ◌/◌, ◌%◌, length, length-append, get_or, ap, ◌∙◌, arith}
use Rattle.picture_stages.proofs.PlaneLemmas.{rows-both}
use Rattle.picture_stages.proofs.wide.write_both_rows.Goals as goal

pub returns : goal.returns
returns c = λ k h.
    rows-both (λ k. get_or c.args.all.now (k % 160 / 2) 0) c.write_twice.new.twice c.write_twice-2.new.twice
    (λ k h.
    let at : k / 2 ≡ k % 160 / 2 = omega arith in
    c.write_twice.ensures k (omega arith) ∙ ap (λ i. get_or c.args.all.now i 0) at)
    (λ k h.
    let at : k / 2 ≡ (length c.write_twice.new.twice + k) % 160 / 2 = omega arith in
    c.write_twice-2.ensures k (omega arith) ∙ ap (λ i. get_or c.args.all.now i 0) at)
    k (omega (arith, length-append c.write_twice.new.twice c.write_twice-2.new.twice))
