-- The targets so far stand in the front.
use Rattle.std.proofs.Common.{◌≡◌, length, map, take}
use Rattle.hal_device_c.specs.Records.{target_of}
use Rattle.hal_device_c.proofs.framework.few_targets.Given as goal

abbrev pub invariant-loop-place : goal.invariant-loop-place
invariant-loop-place l = record {
  front : take l.place l.few ≡ map target_of (take l.place l.targets);
  four : length l.few ≡ 4;
}
