use Rattle.std.proofs.lemmas.Bool.Decides.{same_from_decides}
use Rattle.rule_conditions.proofs.ResultLaws.{Decides-part}
use Rattle.rule_conditions.proofs.results.is_same_partial_result.Goals as goal

pub returns : goal.returns
returns c = same_from_decides _ _ c.is_same_partial_result.ensures (Decides-part c.args.one c.args.other)
