use Rattle.std.proofs.Common.{refl}
use Rattle.state_facts.specs.States.{takes_in}
use Rattle.judge_entries.proofs.General.{four_all}
use Rattle.trace_check.proofs.send.all_take.Goals as goal

pub returns-else-takes_where_there : goal.returns-else-takes_where_there
returns-else-takes_where_there c =
    rw (four_all (takes_in c.args.tables.now.state) c.args.targets, ← c.takes_where_there.ensures, c.if-takes_where_there.false) refl

pub returns-else-takes_where_there-2 : goal.returns-else-takes_where_there-2
returns-else-takes_where_there-2 c =
    rw (four_all (takes_in c.args.tables.now.state) c.args.targets, ← c.takes_where_there.ensures, c.if-takes_where_there.true, ← c.takes_where_there-then-takes_where_there.ensures, c.if-takes_where_there-2.false) refl

pub returns-else-takes_where_there-3 : goal.returns-else-takes_where_there-3
returns-else-takes_where_there-3 c =
    rw (four_all (takes_in c.args.tables.now.state) c.args.targets, ← c.takes_where_there.ensures, c.if-takes_where_there.true, ← c.takes_where_there-then-takes_where_there.ensures, c.if-takes_where_there-2.true, ← c.takes_where_there-then-takes_where_there-2.ensures, c.if-takes_where_there-3.false) refl

pub returns-then-takes_where_there-3 : goal.returns-then-takes_where_there-3
returns-then-takes_where_there-3 c =
    rw (four_all (takes_in c.args.tables.now.state) c.args.targets, ← c.takes_where_there.ensures, c.if-takes_where_there.true, ← c.takes_where_there-then-takes_where_there.ensures, c.if-takes_where_there-2.true, ← c.takes_where_there-then-takes_where_there-2.ensures, c.if-takes_where_there-3.true) c.takes_where_there-then-takes_where_there-3.ensures
