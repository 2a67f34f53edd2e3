use Rattle.std.proofs.Common.{◌∙◌, sym}
use Rattle.hal_table.proofs.Kept.{plain_counted}
use Rattle.hal_table.proofs.index.note_held.Goals as goal

pub returns-clause-counted : goal.returns-clause-counted
returns-clause-counted c =
    λ counted. rw c.in_ok-note_entry.ensures.rows (plain_counted c.args.parts c.args.flushing c.args.event.now c.args.frame c.args.rows.now.entries c.args.held.now (sym c.gives_buffers.ensures ∙ c.if-gives_buffers.false) counted)
