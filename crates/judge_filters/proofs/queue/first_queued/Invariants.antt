use Rattle.std.proofs.Common.{◌≡◌, not, reverse, take, drop, filter}
use Rattle.trace_model.specs.Queue.{submitted, is_taken, first_in}
use Rattle.judge_filters.proofs.queue.first_queued.Given as goal

abbrev pub invariant-loop-entry : goal.invariant-loop-entry
invariant-loop-entry l = l.first ≡ first_in (filter (λ w. not (is_taken (reverse l.entries) w)) (submitted l.script (reverse (take l.entry-index l.entries))))
