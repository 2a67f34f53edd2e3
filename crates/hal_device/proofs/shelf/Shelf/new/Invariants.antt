use Rattle.std.proofs.Common.{◌≡◌, ◌≤◌, true, length, vec_capacity}
use Rattle.std.specs.Prelude.{◌==◌}
use Rattle.std.specs.List.{list_all}
use Rattle.hal_device.proofs.shelf.Shelf.new.Given as goal

abbrev pub invariant-loop : goal.invariant-loop
invariant-loop l = record {
  whole : list_all (λ b. length b.items == l.size) l.blocks.items ≡ true;
  made : length l.blocks.items ≡ l.counter;
  room : l.count ≤ vec_capacity l.blocks;
}
