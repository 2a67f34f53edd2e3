use Rattle.std.proofs.Common.{◌≡◌, ◌++◌, map, take}
use Rattle.hal_timeline.specs.Pieces.{back_piece}
use Rattle.hal_timeline.proofs.piece.put_back.Given as goal

abbrev pub invariant-loop-back : goal.invariant-loop-back
invariant-loop-back l = l.pieces ≡ l.initial.pieces ++ map (back_piece l.frame l.seats) (take l.back-index l.buffers)
