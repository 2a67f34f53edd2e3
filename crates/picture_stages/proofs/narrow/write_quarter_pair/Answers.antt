use Rattle.std.proofs.Common.{◌+◌, ◌*◌, ◌/◌, ◌%◌, refl, ◌∙◌, arith}
use Rattle.cam_types.specs.Picture.{luma, chroma_blue, chroma_red}
use Rattle.picture_stages.proofs.PlaneLemmas.{place-of-cell}
use Rattle.picture_stages.proofs.narrow.write_quarter_pair.Goals as goal

pub returns-clause-luma : goal.returns-clause-luma
returns-clause-luma c = λ k h.
    c.write_luma.ensures k h ∙ place-of-cell luma c.args.values.now c.read_half_of_cells.new.colours k (k % 40 * 4) (k / 40 * 4 + c.args.y) (k % 40 * 4) (k / 40 * 4 + c.args.y) refl refl (c.read_half_of_cells.ensures.red k (omega arith)) (c.read_half_of_cells.ensures.green k (omega arith)) (c.read_half_of_cells.ensures.blue k (omega arith))

pub returns-clause-blue : goal.returns-clause-blue
returns-clause-blue c = λ k h.
    c.write_second_differences.ensures.blue k (omega arith) ∙ place-of-cell chroma_blue c.args.values.now c.read_half_of_cells.new.colours (k * 2) (k * 2 % 40 * 4) (k * 2 / 40 * 4 + c.args.y) (k * 8) c.args.y (omega arith) (omega arith) (c.read_half_of_cells.ensures.red (k * 2) (omega arith)) (c.read_half_of_cells.ensures.green (k * 2) (omega arith)) (c.read_half_of_cells.ensures.blue (k * 2) (omega arith))

pub returns-clause-red : goal.returns-clause-red
returns-clause-red c = λ k h.
    c.write_second_differences.ensures.red k (omega arith) ∙ place-of-cell chroma_red c.args.values.now c.read_half_of_cells.new.colours (k * 2) (k * 2 % 40 * 4) (k * 2 / 40 * 4 + c.args.y) (k * 8) c.args.y (omega arith) (omega arith) (c.read_half_of_cells.ensures.red (k * 2) (omega arith)) (c.read_half_of_cells.ensures.green (k * 2) (omega arith)) (c.read_half_of_cells.ensures.blue (k * 2) (omega arith))
