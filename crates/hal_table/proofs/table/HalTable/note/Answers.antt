use Rattle.std.proofs.Common.{◌≡◌, arith, false, true}
use Rattle.hal_model.specs.Words.{is_open_ok}
use Rattle.hal_rows.specs.Noting.{is_stray_at}
use Rattle.hal_table.specs.State.{state_of}
use Rattle.hal_table.proofs.table.HalTable.note.Goals as goal

pub returns-then-is_open_ok : goal.returns-then-is_open_ok
returns-then-is_open_ok c =
    let opened : is_open_ok c.args.event.now ≡ true = grind arith in
    rw opened (c.clear.ensures c.args.parts)

pub returns : goal.returns
returns c =
    let closed : is_open_ok c.args.event.now ≡ false = grind arith in
    let heard : is_stray_at c.args.event.now (state_of c.args.self.now) ≡ false = grind arith in
    rw (closed, heard) c.note_heard.ensures
