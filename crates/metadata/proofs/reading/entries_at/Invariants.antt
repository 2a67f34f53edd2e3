use Rattle.std.proofs.Common.{◌≡◌, ◌*◌, ◌-◌, ◌≤◌, length, None}
use Rattle.metadata.proofs.Loop.{with_front, read_from}
use Rattle.metadata.proofs.reading.entries_at.Given as goal

abbrev pub invariant-loop : goal.invariant-loop
invariant-loop l = record {
  so_far : with_front l.entries.items (read_from (l.count - l.counter) l.rest l.area l.tiled l.last) ≡ read_from l.count l.slots l.area 0 None;
  len : length l.rest ≡ 16 * (l.count - l.counter);
  tiled : l.tiled ≤ length l.area;
}
