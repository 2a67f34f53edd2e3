use Rattle.std.proofs.Common.{◌≡◌, ◌++◌, map, take}
use Rattle.timeline_model.specs.declared.look.Look.TheVariants.{Unfinished}
use Rattle.hal_timeline.specs.Pieces.{gone_piece}
use Rattle.hal_timeline.proofs.piece.put_unfinished.Given as goal

abbrev pub invariant-loop-seat : goal.invariant-loop-seat
invariant-loop-seat l = l.pieces ≡ l.initial.pieces ++ map (gone_piece Unfinished) (take l.seat-index l.seats)
