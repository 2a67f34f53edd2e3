use Rattle.std.proofs.Common.{◌≡◌, not, reverse, take, drop, filter}
use Rattle.trace_model.specs.Queue.{named, is_taken, first_in}
use Rattle.judge_filters.proofs.queue.first_left.Given as goal

abbrev pub invariant-loop-index : goal.invariant-loop-index
invariant-loop-index l = first_in (filter (λ w. not (is_taken (reverse l.entries) w)) (named l.request 0 l.items)) ≡ first_in (filter (λ w. not (is_taken (reverse l.entries) w)) (named l.request l.index (drop l.index l.items)))
