use Rattle.std.proofs.Common.{◌≡◌, ◌≤◌, map, take, length}
use Rattle.hal_device_c.specs.Records.{spec_of}
use Rattle.hal_device_c.proofs.framework.few_specs_of.Given as goal

abbrev pub invariant-loop-stream : goal.invariant-loop-stream
invariant-loop-stream l = record {
  specs : l.specs ≡ map spec_of (take l.stream-index l.streams);
  count : length l.specs ≤ l.stream-index;
}
