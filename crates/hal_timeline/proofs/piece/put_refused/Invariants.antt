use Rattle.std.proofs.Common.{◌≡◌, ◌++◌, map, take}
use Rattle.std.specs.Prelude.{filter}
use Rattle.timeline_model.specs.declared.look.Look.TheVariants.{Refused}
use Rattle.hal_timeline.specs.Pieces.{gone_piece}
use Rattle.hal_timeline.specs.Rows.{is_of_frame}
use Rattle.hal_timeline.proofs.piece.put_refused.Given as goal

abbrev pub invariant-loop-seat : goal.invariant-loop-seat
invariant-loop-seat l =
    l.pieces ≡ l.initial.pieces ++ map (gone_piece Refused) (filter (is_of_frame l.frame) (take l.seat-index l.seats))
