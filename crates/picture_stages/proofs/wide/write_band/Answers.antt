use Rattle.std.proofs.Common.{◌+◌, ◌*◌, ◌/◌, arith, ◌∙◌, ◌-◌, ◌%◌}
use Rattle.picture_stages.proofs.PlaneLemmas.{pair-of-rows, plane-more}
use Rattle.cam_types.specs.Picture.{luma, chroma_blue, chroma_red}
use Rattle.picture_stages.specs.Cells.{at_cell}
use Rattle.picture_stages.proofs.wide.write_band.Goals as goal

pub returns-clause-luma : goal.returns-clause-luma
returns-clause-luma c = λ k h. c.loop-pair.invariant.luma k (omega (arith, c.loop-pair.auto.luma, c.requires.luma_room)) ∙ pair-of-rows c.args.values.now k ((k / 320 + c.args.first) * 2)

pub loop-pair-preserved : goal.loop-pair-preserved
loop-pair-preserved c = record {
  luma = plane-more (λ x y. at_cell luma c.args.values.now (x % 160 / 2 * 2) ((y + c.args.first) * 2)) 320 c.loop-pair.pair (c.loop-pair.pair * 320 + 320 - c.loop-pair.pair * 320) c.loop-pair.luma c.write_wide_pair.new.luma_rows (omega arith) (omega arith) (omega arith) c.loop-pair.invariant.luma c.write_wide_pair.ensures.luma;
  blue = plane-more (λ x y. at_cell chroma_blue c.args.values.now (x * 2) ((y + c.args.first) * 2)) 80 c.loop-pair.pair (c.loop-pair.pair * 80 + 80 - c.loop-pair.pair * 80) c.loop-pair.blue c.write_wide_pair.new.blue (omega arith) (omega arith) (omega arith) c.loop-pair.invariant.blue c.write_wide_pair.ensures.blue;
  red = plane-more (λ x y. at_cell chroma_red c.args.values.now (x * 2) ((y + c.args.first) * 2)) 80 c.loop-pair.pair (c.loop-pair.pair * 80 + 80 - c.loop-pair.pair * 80) c.loop-pair.red c.write_wide_pair.new.red (omega arith) (omega arith) (omega arith) c.loop-pair.invariant.red c.write_wide_pair.ensures.red;
  filters = c.write_wide_pair.ensures.filters;
  colours = c.write_wide_pair.ensures.colours;
}
