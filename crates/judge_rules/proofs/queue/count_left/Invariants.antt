use Rattle.std.proofs.Common.{◌≡◌, ◌≤◌, ◌+◌, not, reverse, filter, length, drop}
use Rattle.trace_model.specs.Queue.{named, is_taken}
use Rattle.judge_rules.proofs.queue.count_left.Given as goal

abbrev pub invariant-loop-index : goal.invariant-loop-index
invariant-loop-index l = record {
  value : length (filter (λ w. not (is_taken (reverse l.entries) w)) (named l.request 0 l.items)) ≡ l.count + length (filter (λ w. not (is_taken (reverse l.entries) w)) (named l.request l.index (drop l.index l.items)));
  few : l.count ≤ l.index;
}
