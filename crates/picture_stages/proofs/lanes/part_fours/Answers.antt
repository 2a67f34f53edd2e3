use Rattle.std.proofs.Common.{◌+◌, ◌*◌, ◌≤◌, ◌++◌, get_or, ap, refl, arith, rules, ◌∙◌}
use Rattle.std.proofs.lemmas.List.{length-append}
use Rattle.std.proofs.lemmas.List.Elements.{All-append, All-drop, All-take}
use Rattle.picture_stages.proofs.PartLemmas.{all-eight, eight, pairs-part}
use Rattle.picture_stages.proofs.lanes.part_fours.Goals as goal

pub returns-clause-firsts : goal.returns-clause-firsts
returns-clause-firsts c = record {
  each = λ k h.
      ap (λ v. v + 64) (eight (λ j. get_or (c.keep_pairs-pairs.result ++ c.keep_pairs-pairs_behind.result) (j * 2) 0) k h)
      ∙ pairs-part c.keep_pairs-pairs.result c.keep_pairs-pairs_behind.result c.args.values.now 0 k (k * 2) (k * 4) (omega arith) (omega arith) (omega arith) c.keep_pairs-pairs.ensures.len c.keep_pairs-pairs.ensures.each c.keep_pairs-pairs_behind.ensures.each h;
  len = search rules;
  range = all-eight (λ v. v ≤ 959) (λ j. get_or (c.keep_pairs-pairs.result ++ c.keep_pairs-pairs_behind.result) (j * 2) 0) (λ j. j * 2) (c.keep_pairs-pairs.result ++ c.keep_pairs-pairs_behind.result) (All-append (λ v. v ≤ 959) c.keep_pairs-pairs.result c.keep_pairs-pairs_behind.result c.keep_pairs-pairs.ensures.range c.keep_pairs-pairs_behind.ensures.range) (λ k h. omega (arith, length-append c.keep_pairs-pairs.result c.keep_pairs-pairs_behind.result, c.keep_pairs-pairs.ensures.len, c.keep_pairs-pairs_behind.ensures.len)) (λ k h. refl);
}

pub returns-clause-seconds : goal.returns-clause-seconds
returns-clause-seconds c = record {
  each = λ k h.
      ap (λ v. v + 64) (eight (λ j. get_or (c.keep_pairs-pairs.result ++ c.keep_pairs-pairs_behind.result) (j * 2 + 1) 0) k h)
      ∙ pairs-part c.keep_pairs-pairs.result c.keep_pairs-pairs_behind.result c.args.values.now 1 k (k * 2 + 1) (k * 4 + 1) (omega arith) (omega arith) (omega arith) c.keep_pairs-pairs.ensures.len c.keep_pairs-pairs.ensures.each c.keep_pairs-pairs_behind.ensures.each h;
  len = search rules;
  range = all-eight (λ v. v ≤ 959) (λ j. get_or (c.keep_pairs-pairs.result ++ c.keep_pairs-pairs_behind.result) (j * 2 + 1) 0) (λ j. j * 2 + 1) (c.keep_pairs-pairs.result ++ c.keep_pairs-pairs_behind.result) (All-append (λ v. v ≤ 959) c.keep_pairs-pairs.result c.keep_pairs-pairs_behind.result c.keep_pairs-pairs.ensures.range c.keep_pairs-pairs_behind.ensures.range) (λ k h. omega (arith, length-append c.keep_pairs-pairs.result c.keep_pairs-pairs_behind.result, c.keep_pairs-pairs.ensures.len, c.keep_pairs-pairs_behind.ensures.len)) (λ k h. refl);
}

pub keep_pairs-pairs-requires-clause-values : goal.keep_pairs-pairs-requires-clause-values
keep_pairs-pairs-requires-clause-values c = All-take (λ v. (64 ≤ v) × (v ≤ 1023)) 16 c.args.values.now c.requires.values

pub keep_pairs-pairs_behind-requires-clause-values : goal.keep_pairs-pairs_behind-requires-clause-values
keep_pairs-pairs_behind-requires-clause-values c = All-take (λ v. (64 ≤ v) × (v ≤ 1023)) 16 _ (All-drop (λ v. (64 ≤ v) × (v ≤ 1023)) 16 c.args.values.now c.requires.values)
