use Rattle.std.proofs.Common.{◌≡◌, reverse, take}
use Rattle.trace_model.specs.Shutter.{next_time}
use Rattle.judge_rules.proofs.sensor.next_time.Given as goal

abbrev pub invariant-loop-index : goal.invariant-loop-index
invariant-loop-index l = l.time ≡ next_time l.script (reverse (take l.index l.entries))
