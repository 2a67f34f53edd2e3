use Rattle.std.proofs.Common.{arith}
use Rattle.std.proofs.lemmas.Grind.{elements}
use Rattle.video_call.proofs.files.y4m_head.Goals as goal

pub returns : goal.returns
returns c = grind (arith, elements)
