use Rattle.std.proofs.Common.{◌<◌, ◌≤◌, ◌∙◌, arith, length, reverse, sym}
use Rattle.rule_conditions.proofs.FailedFirst.{first_in, never}
use Rattle.rule_conditions.proofs.first.first_failed.Goals as goal

pub returns-then-not-holds : goal.returns-then-not-holds
returns-then-not-holds c =
    let inside : c.loop-condition.condition-index < length c.conditions_of-conditions.result.now = omega arith in
    first_in c.args.script.now (reverse c.args.entries.now) c.args.entry.now c.conditions_of-conditions.result.now c.loop-condition.condition-index _ c.conditions_of-conditions.ensures inside c.loop-condition.invariant (λ k. sym c.if-not-holds.true ∙ c.holds.ensures.known k) c.requires

pub returns : goal.returns
returns c =
    let end : length c.conditions_of-conditions.result.now ≤ c.loop-condition.condition-index = omega arith in
    absurd (never c.args.script.now (reverse c.args.entries.now) c.args.entry.now c.conditions_of-conditions.result.now c.loop-condition.condition-index c.conditions_of-conditions.ensures end c.loop-condition.invariant c.requires)
