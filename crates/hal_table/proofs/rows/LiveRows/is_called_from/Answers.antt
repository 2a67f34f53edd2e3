use Rattle.std.proofs.Common.{◌∙◌, ap}
use Rattle.std.specs.List.{list_any}
use Rattle.hal_rows.specs.Judged.{is_row_called_from}
use Rattle.hal_table.proofs.Counted.{from_reads}
use Rattle.hal_table.proofs.rows.LiveRows.is_called_from.Goals as goal

pub returns : goal.returns
returns c =
    from_reads c.args.frame c.self.inside.index.rows.entries c.self.inside.index.called c.is_called_from.result c.self.invariant.kept.keyed c.len-valid.ensures.valid.0 c.self.invariant.kept.called c.is_called_from.ensures.above c.is_called_from.ensures.found
    ∙ ap (list_any (is_row_called_from c.args.frame)) c.self.view_is
