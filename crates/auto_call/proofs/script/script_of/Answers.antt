use Rattle.std.proofs.Common.{◌≡◌, arith}
use Rattle.std.proofs.lemmas.Grind.{common_steps}
use Rattle.auto_call.specs.Output.{script_of}
use Rattle.auto_call.proofs.script.script_of.Goals as goal

pub returns : goal.returns
unfolding script_of
returns c = grind (arith, common_steps)
