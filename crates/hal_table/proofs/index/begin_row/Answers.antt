use Rattle.hal_table.proofs.Kept.{begun_indexed, begun_values}
use Rattle.hal_table.proofs.index.begin_row.Goals as goal

pub returns-clause-indexed : goal.returns-clause-indexed
returns-clause-indexed c =
    begun_indexed c.args.index.now (record { rows = c.put.new.self; called = c.hold.new.index.called; held = c.hold.new.index.held }) c.args.row c.requires.indexed c.len-valid.ensures.valid.0 (rw c.len-valid.ensures.len at c.len-valid.ensures.fits) c.requires.live c.requires.in_call (c.in_ok-hold.ensures.counted c.requires.indexed.kept.counted) c.in_ok-hold.ensures.called (rw c.hold.ensures.rows at c.in_ok-put.ensures.entries)

pub returns-clause-rows : goal.returns-clause-rows
returns-clause-rows c =
    begun_values c.args.index.now c.args.row c.put.new.self c.requires.indexed c.len-valid.ensures.valid.0 (rw c.len-valid.ensures.len at c.len-valid.ensures.fits) (rw c.hold.ensures.rows at c.in_ok-put.ensures.entries)
