use Rattle.std.proofs.Common.{arith}
use Rattle.std.proofs.lemmas.Grind.{elements}
use Rattle.request_checks.proofs.plan.stream_at.Goals as goal

pub returns-in_err-spec : goal.returns-in_err-spec
returns-in_err-spec c = grind (arith, elements)

pub returns : goal.returns
returns c = grind (arith, elements)
