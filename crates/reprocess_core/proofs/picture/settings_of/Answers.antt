use Rattle.std.proofs.Common.{◌≡◌, Some, arith, slice_get}
use Rattle.std.proofs.lemmas.Grind.{common_steps}
use Rattle.reprocess_model.specs.Plan.{requests}
use Rattle.reprocess_core.proofs.Ready.{plan-settings}
use Rattle.reprocess_core.proofs.picture.settings_of.Goals as goal

pub returns-then-left-eq0-clause-range : goal.returns-then-left-eq0-clause-range
returns-then-left-eq0-clause-range c =
    let at : slice_get (requests c.args.plan.now.commands) c.args.frame.0 ≡ Some c.in-Request.settings = grind (arith, common_steps) in
    plan-settings c.args.plan.now c.args.frame.0 c.in-Request.settings c.requires.valid at

pub returns-then-left-eq0-clause-value : goal.returns-then-left-eq0-clause-value
returns-then-left-eq0-clause-value c = grind (arith, common_steps)

pub loop-command-preserved : goal.loop-command-preserved
loop-command-preserved c = grind (arith, common_steps)

pub unreachable-requires : goal.unreachable-requires
unreachable-requires c = grind (arith, common_steps)
