use Rattle.hal_table.proofs.Kept.{marked_kept}
use Rattle.hal_table.proofs.index.note_marks.Goals as goal

pub returns-clause-kept : goal.returns-clause-kept
returns-clause-kept c =
    marked_kept c.args.parts c.args.flushing c.args.event.now c.args.frame c.args.index.now (record { rows = c.note_held.new.rows; called = c.note_call.new.called; held = c.note_held.new.held }) c.requires.indexed.kept c.requires.own c.in_ok-note_held.ensures.rows c.note_held.ensures.room c.note_call.ensures (c.in_ok-note_held.ensures.counted c.requires.indexed.kept.counted)
