use Rattle.std.proofs.Common.{arith}
use Rattle.picture_stages.proofs.PlaneLemmas.{picture-160}
use Rattle.picture_stages.proofs.yuv_fill.write_wide_bands.Goals as goal

pub returns : goal.returns
returns g c =
    picture-160 c.args.values.now c.write_bands.new.luma c.write_bands.new.blue c.write_bands.new.red (omega arith) (omega arith) (omega arith) c.write_bands.ensures.luma c.write_bands.ensures.blue c.write_bands.ensures.red
