-- None before this one is it.
use Rattle.std.proofs.Common.{◌≡◌, drop}
use Rattle.std.specs.Prelude.{find}
use Rattle.hal_timeline.specs.Pieces.{is_seat_in}
use Rattle.hal_timeline.proofs.mark.find_in_lane.Given as goal

abbrev pub invariant-loop-seat : goal.invariant-loop-seat
invariant-loop-seat l = find (is_seat_in l.frame l.lane) l.seats ≡ find (is_seat_in l.frame l.lane) (drop l.seat-index l.seats)
