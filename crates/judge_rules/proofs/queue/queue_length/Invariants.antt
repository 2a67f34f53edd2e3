use Rattle.std.proofs.Common.{◌≡◌, ◌≤◌, ◌*◌, not, reverse, filter, length, take}
use Rattle.trace_model.specs.Queue.{submitted, is_taken}
use Rattle.judge_rules.proofs.queue.queue_length.Given as goal

abbrev pub invariant-loop-entry : goal.invariant-loop-entry
invariant-loop-entry l = record {
  value : l.count ≡ length (filter (λ w. not (is_taken (reverse l.entries) w)) (submitted l.script (reverse (take l.entry-index l.entries))));
  few : l.count ≤ 4294967296 * l.entry-index;
}
