use Rattle.reprocess_core.proofs.Yuv.{input-yuv}
use Rattle.reprocess_core.proofs.picture.draw_into.Goals as goal

pub draw-ticket-requires-clause-yuv : goal.draw-ticket-requires-clause-yuv
draw-ticket-requires-clause-yuv c = input-yuv c.args.plan.now c.requires.valid
