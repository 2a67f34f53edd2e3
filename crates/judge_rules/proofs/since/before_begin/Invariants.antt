use Rattle.std.proofs.Common.{◌≡◌, ◌≤◌, reverse, take}
use Rattle.trace_model.specs.Client.{before_begin}
use Rattle.judge_rules.proofs.since.before_begin.Given as goal

abbrev pub invariant-loop-place : goal.invariant-loop-place
invariant-loop-place l = record {
  before : reverse (take l.count l.entries) ≡ before_begin (reverse (take l.place l.entries));
  within : l.count ≤ l.place;
}
