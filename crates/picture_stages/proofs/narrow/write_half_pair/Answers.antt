use Rattle.std.proofs.Common.{◌+◌, ◌*◌, ◌/◌, ◌%◌, length, length-append, refl, ◌∙◌, arith}
use Rattle.cam_types.specs.Picture.{luma, chroma_blue, chroma_red}
use Rattle.picture_stages.specs.Cells.{at_cell}
use Rattle.picture_stages.proofs.PlaneLemmas.{rows-both, place-of-cell}
use Rattle.picture_stages.proofs.narrow.write_half_pair.Goals as goal

pub returns-clause-luma : goal.returns-clause-luma
returns-clause-luma c = λ k h.
    rows-both (λ k. at_cell luma c.args.values.now (k % 80 * 2) (k / 80 * 2 + c.args.y)) c.write_luma.new.bytes c.write_luma-2.new.bytes
    (λ k h. c.write_luma.ensures k (omega arith) ∙ place-of-cell luma c.args.values.now c.read_all_cells.new.colours k (k * 2) c.args.y (k % 80 * 2) (k / 80 * 2 + c.args.y) (omega arith) (omega arith) (c.read_all_cells.ensures.red k (omega arith)) (c.read_all_cells.ensures.green k (omega arith)) (c.read_all_cells.ensures.blue k (omega arith)))
    (λ k h. c.write_luma-2.ensures k (omega arith) ∙ place-of-cell luma c.args.values.now c.read_all_cells-2.new.colours k (k * 2) (c.args.y + 2) ((length c.write_luma.new.bytes + k) % 80 * 2) ((length c.write_luma.new.bytes + k) / 80 * 2 + c.args.y) (omega arith) (omega arith) (c.read_all_cells-2.ensures.red k (omega arith)) (c.read_all_cells-2.ensures.green k (omega arith)) (c.read_all_cells-2.ensures.blue k (omega arith)))
    k (omega (arith, length-append c.write_luma.new.bytes c.write_luma-2.new.bytes))

pub returns-clause-blue : goal.returns-clause-blue
returns-clause-blue c = λ k h.
    c.write_second_differences.ensures.blue k (omega arith) ∙ place-of-cell chroma_blue c.args.values.now c.read_all_cells.new.colours (k * 2) (k * 2 * 2) c.args.y (k * 4) c.args.y (omega arith) refl (c.read_all_cells.ensures.red (k * 2) (omega arith)) (c.read_all_cells.ensures.green (k * 2) (omega arith)) (c.read_all_cells.ensures.blue (k * 2) (omega arith))

pub returns-clause-red : goal.returns-clause-red
returns-clause-red c = λ k h.
    c.write_second_differences.ensures.red k (omega arith) ∙ place-of-cell chroma_red c.args.values.now c.read_all_cells.new.colours (k * 2) (k * 2 * 2) c.args.y (k * 4) c.args.y (omega arith) refl (c.read_all_cells.ensures.red (k * 2) (omega arith)) (c.read_all_cells.ensures.green (k * 2) (omega arith)) (c.read_all_cells.ensures.blue (k * 2) (omega arith))

pub read_all_cells-requires-clause-values : goal.read_all_cells-requires-clause-values
read_all_cells-requires-clause-values c = c.requires.values

pub read_all_cells-requires-clause-filters : goal.read_all_cells-requires-clause-filters
read_all_cells-requires-clause-filters c = c.requires.filters

pub read_all_cells-requires-clause-colours : goal.read_all_cells-requires-clause-colours
read_all_cells-requires-clause-colours c = c.requires.colours

pub write_luma-requires-clause-colours : goal.write_luma-requires-clause-colours
write_luma-requires-clause-colours c = c.read_all_cells.ensures.colours

pub write_second_differences-requires-clause-colours : goal.write_second_differences-requires-clause-colours
write_second_differences-requires-clause-colours c = c.read_all_cells.ensures.colours

pub read_all_cells-requires-2-clause-values : goal.read_all_cells-requires-2-clause-values
read_all_cells-requires-2-clause-values c = c.requires.values

pub read_all_cells-requires-2-clause-filters : goal.read_all_cells-requires-2-clause-filters
read_all_cells-requires-2-clause-filters c = c.read_all_cells.ensures.filters

pub read_all_cells-requires-2-clause-colours : goal.read_all_cells-requires-2-clause-colours
read_all_cells-requires-2-clause-colours c = c.read_all_cells.ensures.colours

pub write_luma-requires-2-clause-colours : goal.write_luma-requires-2-clause-colours
write_luma-requires-2-clause-colours c = c.read_all_cells-2.ensures.colours

pub returns-clause-filters : goal.returns-clause-filters
returns-clause-filters c = c.read_all_cells-2.ensures.filters

pub returns-clause-colours : goal.returns-clause-colours
returns-clause-colours c = c.read_all_cells-2.ensures.colours
