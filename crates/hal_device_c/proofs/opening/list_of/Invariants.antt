use Rattle.std.proofs.Common.{◌≡◌, ◌≤◌, map, take, length}
use Rattle.hal_device_c.specs.Records.{fault_of}
use Rattle.hal_device_c.proofs.opening.list_of.Given as goal

abbrev pub invariant-loop-fault : goal.invariant-loop-fault
invariant-loop-fault l = record {
  list : l.list ≡ map fault_of (take l.fault-index l.faults);
  count : length l.list ≤ l.fault-index;
}
