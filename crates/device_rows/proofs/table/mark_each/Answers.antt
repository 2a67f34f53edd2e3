use Rattle.std.proofs.Common.{◌<◌, length, refl, arith}
use Rattle.std.proofs.lemmas.Grind.{common_steps}
use Rattle.device_rows.proofs.Marked.{marked-next}
use Rattle.device_rows.proofs.table.mark_each.Goals as goal

pub loop-row-preserved : goal.loop-row-preserved
loop-row-preserved g c =
    let within : c.loop-row.row-index < length c.args.rows.now = grind (arith, common_steps) in
    marked-next c.args.mark c.args.rows.now c.loop-row.rows c.loop-row.row-index c.row-item.result c.marked-row.result _ c.loop-row.invariant within c.marked-row.ensures refl

pub offset_bounds-rows-row-index : goal.offset_bounds-rows-row-index
offset_bounds-rows-row-index c = grind (arith, common_steps)

pub returns : goal.returns
returns c = grind (arith, common_steps)
