use Rattle.hal_row.proofs.Raised.{raised_row}
use Rattle.hal_row.proofs.order.raise_row.Goals as goal

pub returns : goal.returns
returns c = raised_row c.args.row.now.rank c.args.row.now c.args.tops.now c.raise_if.new.tops c.raise_targets.new.tops c.in_ok-raise_if.ensures (rw (c.as_slice.ensures) at c.in_ok-raise_targets.ensures)
