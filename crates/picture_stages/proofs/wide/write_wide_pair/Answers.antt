use Rattle.std.proofs.Common.{◌*◌, ◌/◌, ◌%◌, refl, ◌∙◌, arith}
use Rattle.cam_types.specs.Picture.{luma, chroma_blue, chroma_red}
use Rattle.picture_stages.proofs.PlaneLemmas.{place-of-cell}
use Rattle.picture_stages.proofs.wide.write_wide_pair.Goals as goal

pub returns-clause-luma : goal.returns-clause-luma
returns-clause-luma c = λ k h.
    c.write_both_rows.ensures k h ∙ (c.write_luma.ensures (k % 160 / 2) (omega arith) ∙ place-of-cell luma c.args.values.now c.read_all_cells.new.colours (k % 160 / 2) (k % 160 / 2 * 2) c.args.y (k % 160 / 2 * 2) c.args.y refl refl (c.read_all_cells.ensures.red (k % 160 / 2) (omega arith)) (c.read_all_cells.ensures.green (k % 160 / 2) (omega arith)) (c.read_all_cells.ensures.blue (k % 160 / 2) (omega arith)))

pub returns-clause-blue : goal.returns-clause-blue
returns-clause-blue c = λ k h.
    c.write_differences.ensures.blue k (omega arith) ∙ place-of-cell chroma_blue c.args.values.now c.read_all_cells.new.colours k (k * 2) c.args.y (k * 2) c.args.y refl refl (c.read_all_cells.ensures.red k (omega arith)) (c.read_all_cells.ensures.green k (omega arith)) (c.read_all_cells.ensures.blue k (omega arith))

pub returns-clause-red : goal.returns-clause-red
returns-clause-red c = λ k h.
    c.write_differences.ensures.red k (omega arith) ∙ place-of-cell chroma_red c.args.values.now c.read_all_cells.new.colours k (k * 2) c.args.y (k * 2) c.args.y refl refl (c.read_all_cells.ensures.red k (omega arith)) (c.read_all_cells.ensures.green k (omega arith)) (c.read_all_cells.ensures.blue k (omega arith))
