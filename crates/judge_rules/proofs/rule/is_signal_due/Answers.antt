use Rattle.trace_model.specs.declared.entry.Entry.TheVariants.{Signal}
use Rattle.judge_rules.proofs.RuleLaws.{when_some}
use Rattle.judge_rules.proofs.rule.is_signal_due.Goals as goal

pub returns : goal.returns
returns c script = rw c.signals_next.ensures (when_some _ (Signal c.args.fence))
