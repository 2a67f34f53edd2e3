use Rattle.std.proofs.Common.{◌∙◌, ap, sym, nat_lt}
use Rattle.std.specs.Map.{values_of}
use Rattle.hal_rows.specs.Judged.{is_held_at, is_holding}
use Rattle.hal_table.proofs.Counted.{held_reads}
use Rattle.hal_table.proofs.rows.LiveRows.is_held.Goals as goal

pub returns : goal.returns
returns c =
    ap (nat_lt 0) (c.of_buffer.ensures ∙ c.self.invariant.kept.counted.0 c.args.buffer)
    ∙ (sym (held_reads (is_holding c.args.buffer) (values_of c.self.inside.index.rows.entries)) ∙ ap (is_held_at c.args.buffer) c.self.view_is)
