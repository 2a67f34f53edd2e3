use Rattle.picture_stages.proofs.PlaneLemmas.{picture-40}
use Rattle.picture_stages.proofs.yuv_fill.write_quarter.Goals as goal

pub returns : goal.returns
returns c =
    picture-40 c.args.values.now c.write_quarter_planes.new.luma_plane c.write_quarter_planes.new.blue c.write_quarter_planes.new.red c.write_quarter_planes.ensures.luma c.write_quarter_planes.ensures.blue c.write_quarter_planes.ensures.red
