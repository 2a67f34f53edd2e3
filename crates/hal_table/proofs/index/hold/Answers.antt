use Rattle.hal_table.proofs.Kept.{others_counted}
use Rattle.hal_table.proofs.index.hold.Goals as goal

pub returns-clause-counted : goal.returns-clause-counted
returns-clause-counted c =
    λ counted. (c.take_of.new.held, others_counted c.args.row.now.frame c.args.index.now.rows.entries c.args.index.now.held c.take_of.new.held c.in_ok-take_of.ensures.found c.in_ok-take_of.ensures.none counted, rw c.as_slice.ensures at c.in_ok-add_targets.ensures)
