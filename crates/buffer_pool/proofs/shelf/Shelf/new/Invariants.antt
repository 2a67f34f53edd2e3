use Rattle.std.proofs.Common.{◌≡◌, ◌≤◌, true, length, vec_capacity}
use Rattle.std.specs.Prelude.{◌==◌}
use Rattle.std.specs.List.{list_all}
use Rattle.buffer_pool.proofs.shelf.Shelf.new.Given as goal

abbrev pub invariant-loop : goal.invariant-loop
invariant-loop l = record {
  whole : list_all (λ b. length b.items == l.size) l.free.items ≡ true;
  made : length l.free.items ≡ l.counter;
  room : l.count ≤ vec_capacity l.free;
}
