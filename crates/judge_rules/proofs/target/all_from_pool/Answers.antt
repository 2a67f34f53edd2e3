use Rattle.std.proofs.Common.{refl, reverse}
use Rattle.trace_model.specs.Send.{takes_from_pool}
use Rattle.judge_entries.proofs.General.{four_all}
use Rattle.judge_rules.proofs.target.all_from_pool.Goals as goal

pub returns-else-takes_where_there : goal.returns-else-takes_where_there
returns-else-takes_where_there c =
    rw (four_all (takes_from_pool (reverse c.args.entries.now)) c.args.targets, ← c.takes_where_there.ensures, c.if-takes_where_there.false) refl

pub returns-else-takes_where_there-2 : goal.returns-else-takes_where_there-2
returns-else-takes_where_there-2 c =
    rw (four_all (takes_from_pool (reverse c.args.entries.now)) c.args.targets, ← c.takes_where_there.ensures, c.if-takes_where_there.true, ← c.takes_where_there-then-takes_where_there.ensures, c.if-takes_where_there-2.false) refl

pub returns-else-takes_where_there-3 : goal.returns-else-takes_where_there-3
returns-else-takes_where_there-3 c =
    rw (four_all (takes_from_pool (reverse c.args.entries.now)) c.args.targets, ← c.takes_where_there.ensures, c.if-takes_where_there.true, ← c.takes_where_there-then-takes_where_there.ensures, c.if-takes_where_there-2.true, ← c.takes_where_there-then-takes_where_there-2.ensures, c.if-takes_where_there-3.false) refl

pub returns-then-takes_where_there-3 : goal.returns-then-takes_where_there-3
returns-then-takes_where_there-3 c =
    rw (four_all (takes_from_pool (reverse c.args.entries.now)) c.args.targets, ← c.takes_where_there.ensures, c.if-takes_where_there.true, ← c.takes_where_there-then-takes_where_there.ensures, c.if-takes_where_there-2.true, ← c.takes_where_there-then-takes_where_there-2.ensures, c.if-takes_where_there-3.true) c.takes_where_there-then-takes_where_there-3.ensures
