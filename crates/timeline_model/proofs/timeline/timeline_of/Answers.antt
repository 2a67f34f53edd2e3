-- The walk begins with what stands before the first entry.
use Rattle.timeline_model.proofs.timeline.timeline_of.Goals as goal

pub draw_all-requires-clause-fits : goal.draw_all-requires-clause-fits
draw_all-requires-clause-fits c = c.new-walk.ensures.fits c.args.script.now
