use Rattle.std.proofs.Common.{◌≡◌, ◌+◌, ◌-◌, ◌*◌, ◌≤◌, get_or, refl, ap, ◌∙◌, arith}
use Rattle.std.proofs.lemmas.List.Elements.{All-take, All-drop}
use Rattle.cam_types.specs.Picture.{scaled}
use Rattle.picture_stages.proofs.PartLemmas.{in-slice, mean-above}
use Rattle.picture_stages.proofs.strip.read_all_cells.Goals as goal

pub part_all-requires-clause-values : goal.part_all-requires-clause-values
part_all-requires-clause-values c = All-take (λ v. (64 ≤ v) × (v ≤ 1023)) _ _ (All-drop (λ v. (64 ≤ v) × (v ≤ 1023)) _ _ c.requires.values)

pub returns-clause-red : goal.returns-clause-red
returns-clause-red c = λ k h.
    c.colour_cells.ensures.red k h ∙ ap scaled (c.part_all.ensures.left k (omega arith) ∙ in-slice c.args.values.now (c.args.y * 160) (c.args.y * 160 + 320 - c.args.y * 160) (k * 2) (c.args.y * 160 + k * 2) (omega arith) (omega arith))

pub returns-clause-green : goal.returns-clause-green
returns-clause-green c = λ k h.
    let beside : get_or c.part_all.new.filters.right k 0 + 64 ≡ get_or c.args.values.now (c.args.y * 160 + (k * 2 + 1)) 0 = c.part_all.ensures.right k (omega arith) ∙ in-slice c.args.values.now (c.args.y * 160) (c.args.y * 160 + 320 - c.args.y * 160) (k * 2 + 1) (c.args.y * 160 + (k * 2 + 1)) (omega arith) (omega arith) in
    let below : get_or c.part_all.new.filters.left (k + 80) 0 + 64 ≡ get_or c.args.values.now ((c.args.y + 1) * 160 + k * 2) 0 = c.part_all.ensures.left (k + 80) (omega arith) ∙ in-slice c.args.values.now (c.args.y * 160) (c.args.y * 160 + 320 - c.args.y * 160) ((k + 80) * 2) ((c.args.y + 1) * 160 + k * 2) (omega arith) (omega arith) in
    c.colour_cells.ensures.green k h ∙ ap scaled (mean-above (get_or c.part_all.new.filters.right k 0) (get_or c.part_all.new.filters.left (k + 80) 0) ∙ rw (beside, below) refl)

pub returns-clause-blue : goal.returns-clause-blue
returns-clause-blue c = λ k h.
    c.colour_cells.ensures.blue k h ∙ ap scaled (c.part_all.ensures.right (k + 80) (omega arith) ∙ in-slice c.args.values.now (c.args.y * 160) (c.args.y * 160 + 320 - c.args.y * 160) ((k + 80) * 2 + 1) ((c.args.y + 1) * 160 + (k * 2 + 1)) (omega arith) (omega arith))
