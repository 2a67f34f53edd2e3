use Rattle.std.proofs.Common.{arith, ◌∙◌, ◌+◌, ◌-◌, ◌*◌, ◌/◌, ◌%◌}
use Rattle.cam_types.specs.Picture.{chroma_blue, chroma_red, luma}
use Rattle.picture_stages.proofs.PlaneLemmas.{cells-all, half-luma-all, plane-more}
use Rattle.picture_stages.specs.Cells.{at_cell}
use Rattle.picture_stages.proofs.narrow.write_half_planes.Goals as goal

pub returns-clause-luma : goal.returns-clause-luma
returns-clause-luma c = half-luma-all c.args.values.now c.loop-pair.pair c.loop-pair.luma_plane (omega arith) (c.loop-pair.auto.luma_plane ∙ c.requires.room) c.loop-pair.invariant.luma

pub returns-clause-blue : goal.returns-clause-blue
returns-clause-blue c =
    cells-all chroma_blue c.args.values.now 4 40 30 c.loop-pair.pair c.loop-pair.blue (omega arith) (omega arith) (c.loop-pair.auto.blue ∙ c.requires.blue_room) c.loop-pair.invariant.blue

pub returns-clause-red : goal.returns-clause-red
returns-clause-red c =
    cells-all chroma_red c.args.values.now 4 40 30 c.loop-pair.pair c.loop-pair.red (omega arith) (omega arith) (c.loop-pair.auto.red ∙ c.requires.red_room) c.loop-pair.invariant.red

pub loop-pair-preserved : goal.loop-pair-preserved
loop-pair-preserved c = record {
  luma = plane-more (λ x y. at_cell luma c.args.values.now (x % 80 * 2) (x / 80 * 2 + y * 4)) 160 c.loop-pair.pair (c.loop-pair.pair * 160 + 160 - c.loop-pair.pair * 160) c.loop-pair.luma_plane c.write_half_pair.new.luma_rows (omega arith) (omega arith) (omega arith) c.loop-pair.invariant.luma c.write_half_pair.ensures.luma;
  blue = plane-more (λ x y. at_cell chroma_blue c.args.values.now (x * 4) (y * 4)) 40 c.loop-pair.pair (c.loop-pair.pair * 40 + 40 - c.loop-pair.pair * 40) c.loop-pair.blue c.write_half_pair.new.blue (omega arith) (omega arith) (omega arith) c.loop-pair.invariant.blue c.write_half_pair.ensures.blue;
  red = plane-more (λ x y. at_cell chroma_red c.args.values.now (x * 4) (y * 4)) 40 c.loop-pair.pair (c.loop-pair.pair * 40 + 40 - c.loop-pair.pair * 40) c.loop-pair.red c.write_half_pair.new.red (omega arith) (omega arith) (omega arith) c.loop-pair.invariant.red c.write_half_pair.ensures.red;
  filters = c.write_half_pair.ensures.filters;
  colours = c.write_half_pair.ensures.colours;
}
