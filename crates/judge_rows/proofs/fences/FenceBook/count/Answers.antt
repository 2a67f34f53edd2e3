use Rattle.std.proofs.Common.{sym}
use Rattle.judge_rows.proofs.FenceLemmas.{length-marks}
use Rattle.judge_rows.proofs.fences.FenceBook.count.Goals as goal

pub returns : goal.returns
returns c = rw (← c.self.view_is) (sym (length-marks c.self.inside.waiting.items c.self.inside.count))
