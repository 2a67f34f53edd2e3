use Rattle.std.proofs.Common.{rules}
use Rattle.rule_conditions.proofs.rule.rule_of.Goals as goal

pub returns-in-DeliveryAtDevice : goal.returns-in-DeliveryAtDevice
returns-in-DeliveryAtDevice c = search rules
