use Rattle.std.proofs.Common.{◌≡◌, ◌∙◌, false, sym}
use Rattle.hal_model.specs.Words.{begins_request}
use Rattle.hal_table.specs.State.{state_of}
use Rattle.hal_table.proofs.Noted.{begins-none, rows_other, state_heard}
use Rattle.hal_table.proofs.table.HalTable.note_heard.Goals as goal

pub returns-in_ok-note_device-in_default : goal.returns-in_ok-note_device-in_default
returns-in_ok-note_device-in_default c =
    let s = c.args.self.now in
    let e = c.args.event.now in
    let other : begins_request e ≡ false = begins-none e c.in_default.not-RequestBegin in
    let rows = c.in_ok-note-in_default.ensures.rows ∙ sym (rows_other c.args.parts e (state_of s) other) in
    state_heard c.args.parts e s.device c.note_device-in_default.new.device s.rows c.note.new.self s.tops c.note.new.tops c.in_ok-note_device-in_default.ensures rows c.in_ok-note-in_default.ensures.tops
