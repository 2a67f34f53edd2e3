use Rattle.rule_conditions.proofs.Law.{meets, none_failed}
use Rattle.rule_conditions.proofs.laws.what_is_allowed_meets_its_conditions.Goals as goal

pub returns-clause-all : goal.returns-clause-all
returns-clause-all c = meets

pub returns-clause-first : goal.returns-clause-first
returns-clause-first c = none_failed
