use Rattle.std.proofs.Common.{◌≡◌, reverse, take, count_by}
use Rattle.trace_model.specs.Open.{is_open}
use Rattle.judge_filters.specs.Past.{on_send}
use Rattle.judge_filters.proofs.open.count_sends_open.Given as goal

abbrev pub invariant-loop-entry : goal.invariant-loop-entry
invariant-loop-entry l = l.count ≡ count_by (on_send (λ n. is_open n (reverse l.entries))) (reverse (take l.entry-index l.entries))
