-- A row that isn't free is passed.
use Rattle.std.proofs.Common.{◌≡◌, ◌∙◌, ◌<◌, false, sym, refl, arith, true, Some, ◌-◌}
use Rattle.timeline_model.specs.Seats.{is_free}
use Rattle.timeline_model.proofs.Ranges.{next_row}
use Rattle.std.specs.Prelude.{find}
use Rattle.std.specs.List.{range_with_len}
use Rattle.timeline_model.proofs.seat.free_row.Goals as goal

pub loop-row-preserved : goal.loop-row-preserved
loop-row-preserved c =
    let less : c.loop-row.row < 16 = omega arith in
    let taken : is_free c.args.lane c.args.seats.now c.loop-row.row ≡ false = sym c.is_free.ensures ∙ c.if-is_free.false in
    c.loop-row.invariant ∙ rw (next_row c.loop-row.row 16 less, taken) refl

pub returns-then-is_free : goal.returns-then-is_free
returns-then-is_free c =
    let less : c.loop-row.row < 16 = omega arith in
    let free : is_free c.args.lane c.args.seats.now c.loop-row.row ≡ true = sym c.is_free.ensures ∙ c.if-is_free.true in
    let here : find (is_free c.args.lane c.args.seats.now) (range_with_len c.loop-row.row (16 - c.loop-row.row)) ≡ Some c.loop-row.row = rw (next_row c.loop-row.row 16 less, free) refl in
    sym (c.loop-row.invariant ∙ here)
