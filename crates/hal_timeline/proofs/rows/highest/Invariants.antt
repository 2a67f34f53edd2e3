-- The highest of those that are left is the highest of all.
use Rattle.std.proofs.Common.{◌≡◌, drop}
use Rattle.hal_timeline.specs.Rows.{highest}
use Rattle.hal_timeline.proofs.rows.highest.Given as goal

abbrev pub invariant-loop-seat : goal.invariant-loop-seat
invariant-loop-seat l = highest l.highest (drop l.seat-index l.seats) ≡ highest l.most l.seats
