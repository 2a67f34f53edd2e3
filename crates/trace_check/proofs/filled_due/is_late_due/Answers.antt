use Rattle.std.proofs.Common.{◌∙◌, List, refl, sym, ap}
use Rattle.std.specs.Prelude.{option_map}
use Rattle.std.specs.List.{find}
use Rattle.state_facts.specs.FrameReadings.{has_pending}
use Rattle.state_facts.specs.Row.{Row}
use Rattle.judge_rows.specs.Views.{row_of}
use Rattle.trace_check.specs.Drawing.{is_drawable}
use Rattle.trace_check.proofs.Rows.{found_all}
use Rattle.trace_check.proofs.filled_due.is_late_due.Goals as goal

pub is_late_at-requires-clause-drawable : goal.is_late_at-requires-clause-drawable
is_late_at-requires-clause-drawable c =
    let d = c.args.fence.0 in
    let rows = c.args.tables.now.state.rows in
    let at = sym (c.pending_row.ensures ∙ ap (λ (z : List Row). find (has_pending d) z) (c.rows-2.ensures ∙ c.rows.ensures)) ∙ ap (option_map row_of) c.in-Some.is in
    found_all (λ r. is_drawable r.settings) (has_pending d) rows (find (has_pending d) rows) (row_of c.in-Some.row) c.requires.drawable refl at
