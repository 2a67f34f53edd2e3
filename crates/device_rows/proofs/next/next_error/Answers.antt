use Rattle.std.proofs.Common.{rules, ◌≡◌}
use Rattle.device_rows.proofs.NextLemmas.{least-due, none-due, own-due}
use Rattle.device_rows.specs.Next.{next_due}
use Rattle.device_rows.proofs.next.next_error.Goals as goal

pub returns-in-Parts-clause-none : goal.returns-in-Parts-clause-none
returns-in-Parts-clause-none c =
    let value : c.next_buffer.result ≡ next_due c.args.row c.args.verdict c.args.may_end = search rules in
    none-due c.args.row c.args.verdict c.args.may_end c.next_buffer.result value

pub returns-in-Parts-clause-least : goal.returns-in-Parts-clause-least
returns-in-Parts-clause-least c =
    let value : c.next_buffer.result ≡ next_due c.args.row c.args.verdict c.args.may_end = search rules in
    least-due c.args.row c.args.verdict c.args.may_end c.next_buffer.result value

pub returns-in-Parts-clause-own : goal.returns-in-Parts-clause-own
returns-in-Parts-clause-own c =
    let value : c.next_buffer.result ≡ next_due c.args.row c.args.verdict c.args.may_end = search rules in
    own-due c.args.row c.args.verdict c.args.may_end c.next_buffer.result value
