use Rattle.std.proofs.Common.{◌+◌, ◌*◌, ◌≤◌, ◌++◌, take, drop, get_or, ◌∙◌, arith}
use Rattle.picture_stages.proofs.PartLemmas.{all-eight, eight, in-halves}
use Rattle.picture_stages.proofs.lanes.part_twos.Goals as goal

pub above_dark-requires-clause-values : goal.above_dark-requires-clause-values
above_dark-requires-clause-values c =
    all-eight (λ v. (64 ≤ v) × (v ≤ 1023)) (λ j. get_or (take 8 (take 8 c.args.values.now) ++ take 8 (drop 8 c.args.values.now)) (j * 2) 0) (λ j. j * 2) c.args.values.now c.requires.values (λ k h. omega (arith, c.requires.len)) (λ k h. in-halves c.args.values.now (k * 2) c.requires.len)

pub above_dark-requires-2-clause-values : goal.above_dark-requires-2-clause-values
above_dark-requires-2-clause-values c =
    all-eight (λ v. (64 ≤ v) × (v ≤ 1023)) (λ j. get_or (take 8 (take 8 c.args.values.now) ++ take 8 (drop 8 c.args.values.now)) (j * 2 + 1) 0) (λ j. j * 2 + 1) c.args.values.now c.requires.values (λ k h. omega (arith, c.requires.len)) (λ k h. in-halves c.args.values.now (k * 2 + 1) c.requires.len)

pub returns-clause-evens : goal.returns-clause-evens
returns-clause-evens c = record {
  each = λ k h.
      c.above_dark.ensures.each k h
      ∙ (eight (λ j. get_or (take 8 (take 8 c.args.values.now) ++ take 8 (drop 8 c.args.values.now)) (j * 2) 0) k h
      ∙ in-halves c.args.values.now (k * 2) c.requires.len);
  len = c.above_dark.ensures.len;
  range = c.above_dark.ensures.range;
}

pub returns-clause-odds : goal.returns-clause-odds
returns-clause-odds c = record {
  each = λ k h.
      c.above_dark-2.ensures.each k h
      ∙ (eight (λ j. get_or (take 8 (take 8 c.args.values.now) ++ take 8 (drop 8 c.args.values.now)) (j * 2 + 1) 0) k h
      ∙ in-halves c.args.values.now (k * 2 + 1) c.requires.len);
  len = c.above_dark-2.ensures.len;
  range = c.above_dark-2.ensures.range;
}
