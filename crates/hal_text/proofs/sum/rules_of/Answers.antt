use Rattle.std.proofs.lemmas.Grind.{common_steps}
use Rattle.std.proofs.Common.{◌≡◌, ℕ, ◌+◌, ◌<◌, List, [], length, get_or, drop, add-one, drop-cons, arith}
use Rattle.hal_model.specs.declared.rule.Breach.{Breach}
use Rattle.hal_model.specs.declared.rule.Rule.{Rule}
use Rattle.hal_text.specs.Sum.{rules_behind, with_rule}
use Rattle.hal_text.proofs.sum.rules_of.Goals as goal

one-more : (bs : List Breach) (i : ℕ) (d : Breach) (rules more : List Rule) → i < length bs → more ≡ with_rule rules (get_or bs i d).rule → rules_behind rules (drop i bs) ≡ rules_behind [] bs → rules_behind more (drop (i + 1) bs) ≡ rules_behind [] bs
one-more bs i d rules more l is so = rw (add-one, is) (rw (drop-cons bs i d l) at so)

pub loop-breach-preserved : goal.loop-breach-preserved
loop-breach-preserved c = one-more _ _ _ _ _ c.loop-breach-test.true c.in_ok-add_rule.ensures c.loop-breach.invariant

pub returns : goal.returns
returns c = grind (arith, common_steps)
