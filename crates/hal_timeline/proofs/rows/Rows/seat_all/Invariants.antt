-- What the targets that are left come to.
use Rattle.std.proofs.Common.{◌≡◌, drop}
use Rattle.hal_timeline.specs.Rows.{all_seated, seating_of}
use Rattle.hal_timeline.proofs.rows.Rows.seat_all.Given as goal

abbrev pub invariant-loop-target : goal.invariant-loop-target
invariant-loop-target l =
    all_seated l.frame l.place (drop l.target-index l.targets) (seating_of l.self)
    ≡ all_seated l.frame l.place l.targets (seating_of l.initial.self)
