use Rattle.hal_rows.specs.Row.{note_row}
use Rattle.hal_table.proofs.Kept.{given_counted}
use Rattle.hal_table.proofs.index.note_giving.Goals as goal

pub returns-clause-counted : goal.returns-clause-counted
returns-clause-counted c =
    given_counted (note_row c.args.parts c.args.flushing c.args.event.now) c.args.frame c.args.rows.now.entries c.note_entry.new.rows.entries c.args.held.now c.take_of.new.held c.add_of.new.held c.in_ok-note_entry.ensures.rows c.in_ok-take_of.ensures.found c.in_ok-take_of.ensures.none c.in_ok-add_of.ensures.found c.in_ok-add_of.ensures.none
