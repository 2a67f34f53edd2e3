use Rattle.std.proofs.Common.{◌∙◌, ap}
use Rattle.std.specs.List.{list_any}
use Rattle.hal_rows.specs.State.{brings, is_later_in_call}
use Rattle.hal_checks.proofs.LaterRows.{any_rows}
use Rattle.hal_checks.proofs.later.is_some_later_in_call.Goals as goal

pub returns : goal.returns
returns c = c.is_some_later_in_call_of.ensures ∙ (any_rows (is_later_in_call (brings c.args.order) c.args.row.now) c.rows.result ∙ ap (list_any (is_later_in_call (brings c.args.order) c.args.row.now)) c.rows.ensures.rows)
