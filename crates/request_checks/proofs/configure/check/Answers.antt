use Rattle.std.proofs.Common.{sym}
use Rattle.request_checks.proofs.Accepted.{offered_specs}
use Rattle.request_checks.proofs.InOrder.{in-order}
use Rattle.request_checks.proofs.configure.check.Goals as goal

pub returns-in-None-clause-in_order : goal.returns-in-None-clause-in_order
returns-in-None-clause-in_order c =
    let few = rw c.as_slice-specs.ensures at c.in-None.ensures.few in
    rw (c.make_plan.ensures, c.as_slice-specs.ensures) (in-order c.args.profile c.args.specs.now few)

pub returns-in-None-clause-offered : goal.returns-in-None-clause-offered
returns-in-None-clause-offered c =
    let none = rw c.as_slice-specs.ensures at c.in-None.ensures.value in
    offered_specs c.args.specs.now (sym none)
