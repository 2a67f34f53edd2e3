use Rattle.std.proofs.Common.{rules}
use Rattle.metadata.proofs.rule.range_fault.Goals as goal

pub returns-then-not-is_sensitivity : goal.returns-then-not-is_sensitivity
returns-then-not-is_sensitivity c = search rules

pub returns-then-not-is_exposure : goal.returns-then-not-is_exposure
returns-then-not-is_exposure c = search rules

pub returns-then-not-is_level : goal.returns-then-not-is_level
returns-then-not-is_level c = search rules
