use Rattle.std.proofs.Common.{◌∙◌, ◌==◌, List, refl, sym, ap}
use Rattle.std.specs.Prelude.{option_map}
use Rattle.state_facts.specs.FrameReadings.{row_at}
use Rattle.state_facts.specs.Row.{Row}
use Rattle.judge_rows.specs.Views.{row_of}
use Rattle.trace_check.specs.Drawing.{is_drawable}
use Rattle.trace_check.proofs.Rows.{found_all}
use Rattle.trace_check.proofs.filled_due.is_filled_due.Goals as goal

pub is_filled_of-requires-clause-drawable : goal.is_filled_of-requires-clause-drawable
is_filled_of-requires-clause-drawable c =
    let n = c.args.fill.frame.0 in
    let rows = c.args.tables.now.state.rows in
    let at = sym (c.find_row.ensures ∙ ap (λ (z : List Row). row_at n z) (c.rows-2.ensures ∙ c.rows.ensures)) ∙ ap (option_map row_of) c.in-Some.is in
    found_all (λ r. is_drawable r.settings) (λ r. r.number == n) rows (row_at n rows) (row_of c.in-Some.row) c.requires.drawable refl at
