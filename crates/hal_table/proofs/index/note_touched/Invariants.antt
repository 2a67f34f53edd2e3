use Rattle.std.proofs.Common.{◌≡◌, filter, map, take}
use Rattle.std.specs.Map.{values_of}
use Rattle.hal_rows.specs.Row.{is_row_live, note_row}
use Rattle.hal_table.specs.Index.{IsIndexed, at_rows}
use Rattle.hal_table.proofs.index.note_touched.Given as goal

-- the event is noted in the rows of the requests so far
abbrev pub invariant-loop-frame : goal.invariant-loop-frame
invariant-loop-frame l = record {
  indexed : IsIndexed l.index;
  rows : values_of l.index.rows.entries ≡ filter is_row_live (map (at_rows (take l.frame-index l.frames) (note_row l.parts l.flushing l.event)) (values_of l.initial.index.rows.entries));
  room : l.index.rows.cap ≡ l.initial.index.rows.cap;
}
