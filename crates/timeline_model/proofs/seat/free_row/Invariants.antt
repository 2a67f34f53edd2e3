-- No row before this one is free.
use Rattle.std.proofs.Common.{◌≡◌, ◌-◌}
use Rattle.std.specs.Prelude.{find}
use Rattle.std.specs.List.{range_with_len}
use Rattle.timeline_model.specs.Seats.{is_free}
use Rattle.timeline_model.proofs.seat.free_row.Given as goal

abbrev pub invariant-loop-row : goal.invariant-loop-row
invariant-loop-row l = find (is_free l.lane l.seats) (range_with_len 0 16) ≡ find (is_free l.lane l.seats) (range_with_len l.row (16 - l.row))
