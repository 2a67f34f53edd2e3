use Rattle.judge_filters.proofs.FrameLemmas.{or_below}
use Rattle.judge_filters.proofs.order.has_passed_before.Goals as goal

pub returns-else-frame-earlier : goal.returns-else-frame-earlier
returns-else-frame-earlier c = rw c.in-Send.is (or_below _ _ _ _ c.if-frame-earlier.false c.has_passed.ensures)
