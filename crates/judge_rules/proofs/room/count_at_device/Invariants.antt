use Rattle.std.proofs.Common.{◌≡◌, ◌≤◌, ◌-◌, reverse, filter, length}
use Rattle.std.specs.List.{range_with_len}
use Rattle.trace_model.specs.Place.{Device, place, is_at}
use Rattle.judge_rules.proofs.room.count_at_device.Given as goal

abbrev pub invariant-loop-number : goal.invariant-loop-number
invariant-loop-number l = record {
  value : l.count ≡ length (filter (λ b. is_at (place b (reverse l.entries)) Device) (range_with_len l.fn.made.first.0 (l.number - l.fn.made.first.0)));
  few : l.count ≤ l.number;
}
