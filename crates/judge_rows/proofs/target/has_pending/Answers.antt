use Rattle.std.proofs.Common.{refl}
use Rattle.state_facts.specs.FrameReadings.{is_pending}
use Rattle.judge_rows.proofs.TargetLemmas.{any_four}
use Rattle.judge_rows.proofs.target.has_pending.Goals as goal

pub returns-then-is_pending_at : goal.returns-then-is_pending_at
returns-then-is_pending_at c =
    rw (any_four (is_pending c.args.fence.0) c.args.targets.now, ← c.is_pending_at.ensures, c.if-is_pending_at.true) refl

pub returns-then-is_pending_at-2 : goal.returns-then-is_pending_at-2
returns-then-is_pending_at-2 c =
    rw (any_four (is_pending c.args.fence.0) c.args.targets.now, ← c.is_pending_at.ensures, c.if-is_pending_at.false, ← c.is_pending_at-else-is_pending_at.ensures, c.if-is_pending_at-2.true) refl

pub returns-then-is_pending_at-3 : goal.returns-then-is_pending_at-3
returns-then-is_pending_at-3 c =
    rw (any_four (is_pending c.args.fence.0) c.args.targets.now, ← c.is_pending_at.ensures, c.if-is_pending_at.false, ← c.is_pending_at-else-is_pending_at.ensures, c.if-is_pending_at-2.false, ← c.is_pending_at-else-is_pending_at-2.ensures, c.if-is_pending_at-3.true) refl

pub returns-else-is_pending_at-3 : goal.returns-else-is_pending_at-3
returns-else-is_pending_at-3 c =
    rw (any_four (is_pending c.args.fence.0) c.args.targets.now, ← c.is_pending_at.ensures, c.if-is_pending_at.false, ← c.is_pending_at-else-is_pending_at.ensures, c.if-is_pending_at-2.false, ← c.is_pending_at-else-is_pending_at-2.ensures, c.if-is_pending_at-3.false) c.is_pending_at-else-is_pending_at-3.ensures
