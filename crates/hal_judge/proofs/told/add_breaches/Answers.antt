use Rattle.std.proofs.lemmas.Grind.{common_steps}
use Rattle.std.proofs.Common.{arith}
use Rattle.hal_table.specs.State.{state_of}
use Rattle.hal_judge.proofs.Reported.{breaches_more}
use Rattle.hal_judge.proofs.told.add_breaches.Goals as goal

pub loop-rule-preserved : goal.loop-rule-preserved
loop-rule-preserved c =
    breaches_more c.args.place.parts c.args.place.line c.args.event.now (state_of c.args.table.now) c.args.rules.now c.loop-rule.rule-index _ _ _ _ c.loop-rule-test.true c.loop-rule.invariant c.in_ok-add_of_rule.ensures

pub returns : goal.returns
returns c = grind (arith, common_steps)
