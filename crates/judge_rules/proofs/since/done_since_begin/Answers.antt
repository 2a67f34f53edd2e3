use Rattle.std.proofs.Common.{reverse}
use Rattle.judge_rules.proofs.SinceLemmas.{since_counted}
use Rattle.judge_rules.proofs.since.done_since_begin.Goals as goal

pub returns : goal.returns
returns c =
    since_counted c.args.script.now (reverse c.args.entries.now) (reverse c.before_begin.result.now) _ c.before_begin.ensures c.count_done_since.ensures
