-- None before this one is it.
use Rattle.std.proofs.Common.{◌≡◌, drop}
use Rattle.std.specs.Prelude.{find}
use Rattle.timeline_model.specs.Seats.{is_seat_of}
use Rattle.timeline_model.proofs.seat.seat_of.Given as goal

abbrev pub invariant-loop-seat : goal.invariant-loop-seat
invariant-loop-seat l = find (is_seat_of l.frame l.buffer) l.seats ≡ find (is_seat_of l.frame l.buffer) (drop l.seat-index l.seats)
