use Rattle.std.proofs.Common.{◌∙◌, arith, refl}
use Rattle.std.specs.Map.{values_of}
use Rattle.hal_rows.specs.Row.{note_row}
use Rattle.hal_table.proofs.Steps.{end_read, next_read, none_yet, touched_once}
use Rattle.hal_table.proofs.index.note_touched.Goals as goal

pub loop-frame-init : goal.loop-frame-init
loop-frame-init c = record {
  indexed = c.requires.indexed;
  rows = none_yet (note_row c.args.parts c.args.flushing c.args.event.now) (values_of c.args.index.now.rows.entries) c.requires.indexed.live;
  room = refl;
}

pub note_at-requires-clause-indexed : goal.note_at-requires-clause-indexed
note_at-requires-clause-indexed c = c.loop-frame.invariant.indexed

pub loop-frame-preserved : goal.loop-frame-preserved
loop-frame-preserved c =
    let is = c.as_slice-frames.ensures.value ∙ c.in_ok-touched.ensures in
    record {
      indexed = c.in_ok-note_at.ensures.indexed;
      rows = next_read (note_row c.args.parts c.args.flushing c.args.event.now) c.as_slice-frames.result.now c.loop-frame.frame-index _ (values_of c.args.index.now.rows.entries) (values_of c.loop-frame.index.rows.entries) (values_of c.note_at.new.index.rows.entries) (λ r. refl) c.requires.indexed.live (rw is (touched_once c.args.event.now c.args.index.now.rows.entries c.len-valid.ensures.valid.0)) c.loop-frame-test.true refl c.loop-frame.invariant.rows c.in_ok-note_at.ensures.rows;
      room = c.note_at.ensures.room ∙ c.loop-frame.invariant.room;
    }

pub returns-in_err-note_at-clause-room : goal.returns-in_err-note_at-clause-room
returns-in_err-note_at-clause-room c = c.note_at.ensures.room ∙ c.loop-frame.invariant.room

pub returns-clause-indexed : goal.returns-clause-indexed
returns-clause-indexed c = c.loop-frame.invariant.indexed

pub returns-clause-room : goal.returns-clause-room
returns-clause-room c = c.loop-frame.invariant.room

pub returns-clause-rows : goal.returns-clause-rows
returns-clause-rows c =
    let is = c.as_slice-frames.ensures.value ∙ c.in_ok-touched.ensures in
    let over = c.loop-frame-test.false in
    end_read c.args.parts c.args.flushing c.args.event.now c.args.index.now.rows.entries c.as_slice-frames.result.now c.loop-frame.frame-index (values_of c.loop-frame.index.rows.entries) c.requires.of_none c.requires.indexed.kept.keyed is (λ l. omega (arith, l, over)) c.loop-frame.invariant.rows
