use Rattle.std.proofs.Common.{◌∷◌}
use Rattle.serde_json.specs.Written.{compact_text}
use Rattle.timeline_model.specs.declared.chart.Piece.{Piece}
use Rattle.timeline_json.specs.Timelines.{unfinished_event}
use Rattle.timeline_json.proofs.Parts.{one-more}
use Rattle.timeline_json.proofs.events.put_all_unfinished.Goals as goal

pub loop-piece-preserved : goal.loop-piece-preserved
loop-piece-preserved c =
    rw (c.in_ok-put_event.ensures, c.in_ok-event.ensures.value, c.loop-piece.invariant)
    (one-more (λ (p : Piece). 44 ∷ compact_text (unfinished_event c.args.last p)) _ c.args.pieces.now c.loop-piece.piece-index _ c.loop-piece-test.true)
