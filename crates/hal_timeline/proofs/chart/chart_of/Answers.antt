-- The pass begins before the first event.
use Rattle.hal_timeline.proofs.chart.chart_of.Goals as goal

pub judged_in-requires-clause-first : goal.judged_in-requires-clause-first
judged_in-requires-clause-first c = c.in_ok-pass.ensures c.args.log.now.parts
