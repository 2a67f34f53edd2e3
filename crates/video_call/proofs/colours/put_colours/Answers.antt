use Rattle.video_call.specs.Colours.{pixel}
use Rattle.video_call.proofs.ColourLemmas.{places-next}
use Rattle.video_call.proofs.colours.put_colours.Goals as goal

pub loop-place-preserved : goal.loop-place-preserved
loop-place-preserved c =
    places-next (pixel c.args.width c.args.height c.args.picture.now) c.loop-place.place c.args.out.now.items c.loop-place.out.items c.extend_from_slice.new.self.items c.pixel-colours.result c.in_ok-extend_from_slice.ensures.items c.loop-place.invariant c.pixel-colours.ensures
