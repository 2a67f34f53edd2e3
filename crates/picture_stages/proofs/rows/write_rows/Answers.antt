use Rattle.std.proofs.Common.{◌+◌, ◌-◌, ◌*◌, arith}
use Rattle.picture_stages.proofs.RowLemmas.{row-written}
use Rattle.picture_stages.proofs.rows.write_rows.Goals as goal

pub loop-y-preserved : goal.loop-y-preserved
loop-y-preserved c =
    row-written c.args.settings c.args.frame.0 c.args.first c.loop-y.y c.row_start-start.result (c.loop-y.y * 160 + 160 - c.loop-y.y * 160) (c.row_start-start.result + 160 - c.row_start-start.result) c.args.line.now c.loop-y.values c.copy_from_slice.new.self c.requires.range (omega arith) (omega arith) c.requires.line_len c.row_start-start.ensures.value c.row_start-start.ensures.within c.requires.line (omega arith) (omega arith) c.copy_from_slice.ensures.after c.loop-y.invariant
