use Rattle.std.proofs.Common.{◌≡◌, ◌≤◌, filter, map, take, drop, vec_len}
use Rattle.state_facts.specs.Row.{is_open_row, row_after}
use Rattle.judge_rows.specs.Views.{rows_of}
use Rattle.judge_rows.proofs.table.note_rows.Given as goal

abbrev pub invariant-loop-place : goal.invariant-loop-place
invariant-loop-place l = record {
  rows : rows_of (take l.kept l.rows.items) ≡ filter is_open_row (map (row_after l.entry) (rows_of (take l.place l.initial.rows.items)));
  rest : drop l.place l.rows.items ≡ drop l.place l.initial.rows.items;
  within : l.kept ≤ l.place;
  len : vec_len l.rows ≡ vec_len l.initial.rows;
}
