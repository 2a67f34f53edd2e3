use Rattle.std.proofs.lemmas.Grind.{common_steps}
use Rattle.std.proofs.Common.{◌≡◌, ◌+◌, ◌-◌, ◌*◌, ◌/◌, ◌%◌, get_or, refl, ap, ◌∙◌, arith}
use Rattle.cam_types.specs.Picture.{scaled}
use Rattle.picture_stages.proofs.PartLemmas.{in-slice, mean-above}
use Rattle.picture_stages.specs.Cells.{half_place}
use Rattle.picture_stages.proofs.strip.read_half_of_cells.Goals as goal

pub returns-clause-red : goal.returns-clause-red
returns-clause-red c = λ k h.
    c.colour_cells.ensures.red k h ∙ ap scaled (c.part_half.ensures.left k (omega arith) ∙ in-slice c.args.values.now (c.args.y * 160) (c.args.y * 160 + 960 - c.args.y * 160) (half_place k) ((k / 40 * 4 + c.args.y) * 160 + k % 40 * 4) (omega arith) (omega arith))

pub returns-clause-green : goal.returns-clause-green
returns-clause-green c = λ k h.
    let beside : get_or c.part_half.new.filters.right k 0 + 64 ≡ get_or c.args.values.now ((k / 40 * 4 + c.args.y) * 160 + (k % 40 * 4 + 1)) 0 = c.part_half.ensures.right k (omega arith) ∙ in-slice c.args.values.now (c.args.y * 160) (c.args.y * 160 + 960 - c.args.y * 160) (half_place k + 1) ((k / 40 * 4 + c.args.y) * 160 + (k % 40 * 4 + 1)) (omega arith) (omega arith) in
    let below : get_or c.part_half.new.filters.left (k + 80) 0 + 64 ≡ get_or c.args.values.now ((k / 40 * 4 + c.args.y + 1) * 160 + k % 40 * 4) 0 = c.part_half.ensures.left (k + 80) (omega arith) ∙ in-slice c.args.values.now (c.args.y * 160) (c.args.y * 160 + 960 - c.args.y * 160) (half_place (k + 80)) ((k / 40 * 4 + c.args.y + 1) * 160 + k % 40 * 4) (omega arith) (omega arith) in
    c.colour_cells.ensures.green k h ∙ ap scaled (mean-above (get_or c.part_half.new.filters.right k 0) (get_or c.part_half.new.filters.left (k + 80) 0) ∙ rw (beside, below) refl)

pub returns-clause-blue : goal.returns-clause-blue
returns-clause-blue c = λ k h.
    c.colour_cells.ensures.blue k h ∙ ap scaled (c.part_half.ensures.right (k + 80) (omega arith) ∙ in-slice c.args.values.now (c.args.y * 160) (c.args.y * 160 + 960 - c.args.y * 160) (half_place (k + 80) + 1) ((k / 40 * 4 + c.args.y + 1) * 160 + (k % 40 * 4 + 1)) (omega arith) (omega arith))

pub part_half-requires-clause-values : goal.part_half-requires-clause-values
part_half-requires-clause-values c = grind (arith, common_steps)
