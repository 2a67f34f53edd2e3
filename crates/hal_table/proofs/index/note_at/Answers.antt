use Rattle.std.proofs.Common.{map}
use Rattle.std.specs.Map.{values_of}
use Rattle.hal_rows.specs.Row.{note_row}
use Rattle.hal_table.specs.Index.{at_row}
use Rattle.hal_table.proofs.Kept.{at_values, live_filtered}
use Rattle.hal_table.proofs.index.note_at.Goals as goal

pub returns-clause-indexed : goal.returns-clause-indexed
returns-clause-indexed c = record {
  kept = c.in_ok-drop_gone.ensures.kept;
  live = live_filtered (values_of c.drop_gone.new.index.rows.entries) (map (at_row c.args.frame (note_row c.args.parts c.args.flushing c.args.event.now)) (values_of c.args.index.now.rows.entries)) (at_values (note_row c.args.parts c.args.flushing c.args.event.now) c.args.frame c.args.index.now c.note_marks.new.index.rows.entries c.drop_gone.new.index.rows.entries c.requires.indexed c.len-valid.ensures.valid.0 c.in_ok-note_marks.ensures.rows c.in_ok-drop_gone.ensures.rows);
}

pub returns-clause-rows : goal.returns-clause-rows
returns-clause-rows c =
    at_values (note_row c.args.parts c.args.flushing c.args.event.now) c.args.frame c.args.index.now c.note_marks.new.index.rows.entries c.drop_gone.new.index.rows.entries c.requires.indexed c.len-valid.ensures.valid.0 c.in_ok-note_marks.ensures.rows c.in_ok-drop_gone.ensures.rows
