use Rattle.std.proofs.Common.{◌∙◌, ap, map, nat_eq}
use Rattle.std.specs.Map.{lookup, values_of}
use Rattle.hal_rows.specs.Row.{note_row}
use Rattle.hal_row.specs.Settled.{settled_of}
use Rattle.hal_table.proofs.Kept.{live_filtered, own_values}
use Rattle.hal_table.proofs.Settled.{settled_reads, topped_same}
use Rattle.hal_table.proofs.index.note_own.Goals as goal

pub returns-clause-indexed : goal.returns-clause-indexed
returns-clause-indexed c = record {
  kept = c.in_ok-drop_gone.ensures.kept;
  live = live_filtered (values_of c.drop_gone.new.index.rows.entries) (map (note_row c.args.parts c.args.flushing c.args.event.now) (values_of c.args.index.now.rows.entries)) (own_values c.args.parts c.args.flushing c.args.event.now c.args.frame c.args.index.now c.note_marks.new.index.rows.entries c.drop_gone.new.index.rows.entries c.requires.indexed c.len-valid.ensures.valid.0 c.requires.begun c.requires.own c.in_ok-note_marks.ensures.rows c.in_ok-drop_gone.ensures.rows);
}

pub returns-clause-rows : goal.returns-clause-rows
returns-clause-rows c =
    own_values c.args.parts c.args.flushing c.args.event.now c.args.frame c.args.index.now c.note_marks.new.index.rows.entries c.drop_gone.new.index.rows.entries c.requires.indexed c.len-valid.ensures.valid.0 c.requires.begun c.requires.own c.in_ok-note_marks.ensures.rows c.in_ok-drop_gone.ensures.rows

pub returns-clause-tops : goal.returns-clause-tops
returns-clause-tops c =
    topped_same _ _ c.args.tops.now c.raise_settled.new.tops (ap (settled_of c.args.event.now) (c.peek.ensures ∙ ap (lookup (nat_eq c.args.frame)) c.in_ok-note_marks.ensures.rows) ∙ settled_reads c.args.parts c.args.flushing c.args.event.now c.args.frame c.args.index.now.rows.entries c.requires.indexed.kept.keyed c.requires.begun c.requires.own) c.in_ok-raise_settled.ensures
