use Rattle.std.proofs.Common.{◌≡◌, true, length}
use Rattle.std.specs.List.{list_all}
use Rattle.buffer_pool.specs.Fences.{made}
use Rattle.device_core.specs.Unpacked.{is_made_row}
use Rattle.device_core.proofs.store.Store.scrap.Given as goal

abbrev pub invariant-loop-row : goal.invariant-loop-row
invariant-loop-row l = record {
  fences : l.fences ≡ l.initial.fences;
  made : list_all (is_made_row (made l.initial.fences)) l.table.rows ≡ true;
}

abbrev pub decreases-loop-row : goal.decreases-loop-row
decreases-loop-row l = length l.table.rows
