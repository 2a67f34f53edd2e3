use Rattle.std.proofs.Common.{◌∷◌}
use Rattle.serde_json.specs.Written.{compact_text}
use Rattle.timeline_model.specs.declared.chart.Lane.{Lane}
use Rattle.timeline_json.specs.Timelines.{stream_name}
use Rattle.timeline_json.proofs.Parts.{one-more}
use Rattle.timeline_json.proofs.whole.put_streams.Goals as goal

pub loop-lane-preserved : goal.loop-lane-preserved
loop-lane-preserved c =
    rw (c.in_ok-put_stream.ensures, c.loop-lane.invariant)
    (one-more (λ (lane : Lane). 44 ∷ compact_text (stream_name lane)) _ c.args.lanes.now c.loop-lane.lane-index _ c.loop-lane-test.true)
