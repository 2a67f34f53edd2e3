use Rattle.rule_conditions.specs.Conditions.{first_failed}
use Rattle.std.proofs.Common.{reverse}
use Rattle.explain_call.proofs.Told.{told}
use Rattle.explain_call.proofs.verdict.illegal_entry.Goals as goal

pub returns : goal.returns
returns c =
    told c.args.script.now c.args.part.now c.args.rule c.args.number c.args.position c.args.before.now c.args.faulty.now c.first_failed-failed.result (first_failed c.args.script.now (reverse c.args.before.now) c.args.faulty.now) c.illegal_text.result c.first_failed-failed.ensures c.illegal_text.ensures
