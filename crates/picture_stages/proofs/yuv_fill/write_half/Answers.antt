use Rattle.picture_stages.proofs.PlaneLemmas.{picture-80}
use Rattle.picture_stages.proofs.yuv_fill.write_half.Goals as goal

pub returns : goal.returns
returns c =
    picture-80 c.args.values.now c.write_half_planes.new.luma_plane c.write_half_planes.new.blue c.write_half_planes.new.red c.write_half_planes.ensures.luma c.write_half_planes.ensures.blue c.write_half_planes.ensures.red
