use Rattle.std.proofs.Common.{◌≡◌, reverse, take, count_by}
use Rattle.judge_rules.specs.Since.{is_done_since}
use Rattle.judge_filters.specs.Past.{on_send}
use Rattle.judge_rules.proofs.since.count_done_since.Given as goal

abbrev pub invariant-loop-entry : goal.invariant-loop-entry
invariant-loop-entry l = l.count ≡ count_by (on_send (is_done_since l.script (reverse l.entries) (reverse l.earlier))) (reverse (take l.entry-index l.entries))
