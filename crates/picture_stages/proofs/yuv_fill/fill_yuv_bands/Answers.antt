use Rattle.std.proofs.Common.{arith}
use Rattle.std.proofs.lemmas.Grind.{common_steps}
use Rattle.picture_stages.proofs.yuv_fill.fill_yuv_bands.Goals as goal

pub returns-clause-picture : goal.returns-clause-picture
returns-clause-picture c = grind (arith, common_steps)

pub returns-clause-len : goal.returns-clause-len
returns-clause-len c = grind (arith, common_steps)

pub returns-clause-digest : goal.returns-clause-digest
returns-clause-digest c = grind (arith, common_steps)
