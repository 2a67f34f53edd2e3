use Rattle.hal_text.proofs.Again.{text-again}
use Rattle.hal_text.proofs.laws.spelled_is_read.Goals as goal

pub returns : goal.returns
returns c parts events h l = text-again parts events h l
