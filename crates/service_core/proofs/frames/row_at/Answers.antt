use Rattle.std.proofs.Common.{sym, ◌∙◌}
use Rattle.service_core.proofs.Listed.{none_missing}
use Rattle.service_core.proofs.OwnRows.{own_row}
use Rattle.service_core.proofs.frames.row_at.Goals as goal

pub returns-clause-own : goal.returns-clause-own
returns-clause-own c = own_row c.args.state.now c.args.place c.in-Some.row c.requires.serving (sym c.in-Some.ensures)

pub returns-clause-at : goal.returns-clause-at
returns-clause-at c = sym c.in-Some.ensures

pub unreachable-requires : goal.unreachable-requires
unreachable-requires c = none_missing c.args.state.now.parts.rows c.args.place c.requires.stands (sym c.row.ensures ∙ c.in-None.is)
