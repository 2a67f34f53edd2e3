use Rattle.std.proofs.Common.{◌∙◌, ap}
use Rattle.hal_rows.specs.Row.{row_for}
use Rattle.hal_table.proofs.Entries.{row_reads}
use Rattle.hal_table.proofs.rows.LiveRows.row_for.Goals as goal

pub returns : goal.returns
returns c = c.peek.ensures ∙ (row_reads c.args.frame c.self.inside.index.rows.entries c.self.invariant.kept.keyed ∙ ap (row_for c.args.frame) c.self.view_is)
