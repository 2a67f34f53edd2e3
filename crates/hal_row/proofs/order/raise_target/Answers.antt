use Rattle.hal_row.proofs.Raised.{raised_target}
use Rattle.hal_row.proofs.order.raise_target.Goals as goal

pub returns : goal.returns
returns c = raised_target c.args.rank c.args.target.now c.args.tops.now c.raise_if.new.tops c.raise_if-2.new.tops c.raise_if-3.new.tops c.in_ok-raise_if.ensures c.in_ok-raise_if-2.ensures c.in_ok-raise_if-3.ensures
