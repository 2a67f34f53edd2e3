use Rattle.std.proofs.Common.{arith}
use Rattle.picture_stages.proofs.PlaneLemmas.{picture-160}
use Rattle.picture_stages.proofs.yuv_fill.write_wide.Goals as goal

pub returns : goal.returns
returns c =
    picture-160 c.args.values.now c.write_band.new.luma c.write_band.new.blue c.write_band.new.red (omega arith) (omega arith) (omega arith) c.write_band.ensures.luma c.write_band.ensures.blue c.write_band.ensures.red
