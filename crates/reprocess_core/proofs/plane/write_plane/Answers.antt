use Rattle.std.proofs.lemmas.Grind.{common_steps}
use Rattle.std.proofs.Common.{rules, ◌+◌, ◌-◌, ◌*◌, ◌≤◌, arith, ◌∙◌, length}
use Rattle.std.proofs.lemmas.Nat.{row_fits_turned}
use Rattle.reprocess_core.proofs.Reduced.{row-within, row-more, rows-all}
use Rattle.reprocess_core.proofs.plane.write_plane.Goals as goal

pub overflow_mul-wide : goal.overflow_mul-wide
overflow_mul-wide g c = omega arith

pub overflow_mul-start-in-loop-y : goal.overflow_mul-start-in-loop-y
overflow_mul-start-in-loop-y g c =
    omega (arith, row-within c.loop-y.y g.row.STEP c.args.width c.args.height (length c.args.from.now) c.requires.least c.loop-y-test.true c.requires.len)

pub overflow_add-start : goal.overflow_add-start
overflow_add-start g c =
    omega (arith, row-within c.loop-y.y g.row.STEP c.args.width c.args.height (length c.args.from.now) c.requires.least c.loop-y-test.true c.requires.len)

pub overflow_mul-y : goal.overflow_mul-y
overflow_mul-y g c =
    omega (arith, row_fits_turned c.loop-y.y c.args.width c.args.width c.args.height c.loop-y-test.true (omega arith))

pub overflow_mul-y-in-loop-y : goal.overflow_mul-y-in-loop-y
overflow_mul-y-in-loop-y g c =
    omega (arith, row_fits_turned c.loop-y.y c.args.width c.args.width c.args.height c.loop-y-test.true (omega arith))

pub overflow_add-y : goal.overflow_add-y
overflow_add-y g c =
    omega (arith, row_fits_turned c.loop-y.y c.args.width c.args.width c.args.height c.loop-y-test.true (omega arith))

pub loop-y-preserved : goal.loop-y-preserved
loop-y-preserved g c =
    row-more g.row.STEP c.args.width c.args.height c.loop-y.y (c.loop-y.y * c.args.width + c.args.width - c.loop-y.y * c.args.width) (c.loop-y.y * g.row.STEP * (c.args.width * g.row.STEP) + c.args.width * g.row.STEP - c.loop-y.y * g.row.STEP * (c.args.width * g.row.STEP)) c.args.from.now c.loop-y.bytes c.write_row.new.row c.requires.least c.loop-y-test.true (omega arith) (omega arith) (c.loop-y.auto.bytes ∙ c.requires.room) c.write_row.auto.row c.loop-y.invariant c.write_row.ensures

pub returns : goal.returns
returns g c =
    rows-all g.row.STEP c.args.width c.args.height c.loop-y.y c.args.from.now c.loop-y.bytes c.requires.some_columns c.requires.some_rows (omega arith) (omega arith) (c.loop-y.auto.bytes ∙ c.requires.room) c.loop-y.invariant

pub slice_bounds-write_row-end : goal.slice_bounds-write_row-end
slice_bounds-write_row-end g c =
    let fits : c.loop-y.y * g.row.STEP * (c.args.width * g.row.STEP) + c.args.width * g.row.STEP ≤ length c.args.from.now = row-within c.loop-y.y g.row.STEP c.args.width c.args.height (length c.args.from.now) c.requires.least c.loop-y-test.true c.requires.len in
    search (rules, fits)

pub slice_bounds-write_row-end-in-loop-y : goal.slice_bounds-write_row-end-in-loop-y
slice_bounds-write_row-end-in-loop-y g c =
    let fits : c.loop-y.y * c.args.width + c.args.width ≤ c.args.width * c.args.height = row_fits_turned c.loop-y.y c.args.width c.args.width c.args.height c.loop-y-test.true (omega arith) in
    let room : c.loop-y.y * c.args.width + c.args.width ≤ length c.loop-y.bytes = omega (arith, c.loop-y.auto.bytes, c.requires.room, fits) in
    search (rules, room)

pub overflow_mul-start : goal.overflow_mul-start
overflow_mul-start c = grind (arith, common_steps)
