use Rattle.std.proofs.Common.{◌≡◌, ◌≤◌, ◌++◌}
use Rattle.std.specs.Prelude.{None, replicate, vec_capacity}
use Rattle.buffer_manager.specs.declared.slot.Slot.TheVariants.{Home}
use Rattle.buffer_manager.proofs.configure.add_homes.Given as goal

abbrev pub invariant-loop : goal.invariant-loop
invariant-loop l = record {
  slots : l.slots.items ≡ l.initial.slots.items ++ replicate l.counter (Home None);
  capacity : vec_capacity l.slots ≡ vec_capacity l.initial.slots;
  few : l.counter ≤ l.count;
}
