use Rattle.std.proofs.Common.{refl}
use Rattle.state_facts.specs.Row.{target_after}
use Rattle.judge_rows.proofs.TargetLemmas.{back_four}
use Rattle.judge_rows.proofs.target.are_back_after.Goals as goal

pub returns-else-is_back_after : goal.returns-else-is_back_after
returns-else-is_back_after c =
    rw (back_four c.args.entry.now (target_after c.args.frame.0 c.args.entry.now) c.args.targets.now, ← c.is_back_after.ensures, c.if-is_back_after.false) refl

pub returns-else-is_back_after-2 : goal.returns-else-is_back_after-2
returns-else-is_back_after-2 c =
    rw (back_four c.args.entry.now (target_after c.args.frame.0 c.args.entry.now) c.args.targets.now, ← c.is_back_after.ensures, c.if-is_back_after.true, ← c.is_back_after-then-is_back_after.ensures, c.if-is_back_after-2.false) refl

pub returns-else-is_back_after-3 : goal.returns-else-is_back_after-3
returns-else-is_back_after-3 c =
    rw (back_four c.args.entry.now (target_after c.args.frame.0 c.args.entry.now) c.args.targets.now, ← c.is_back_after.ensures, c.if-is_back_after.true, ← c.is_back_after-then-is_back_after.ensures, c.if-is_back_after-2.true, ← c.is_back_after-then-is_back_after-2.ensures, c.if-is_back_after-3.false) refl

pub returns-then-is_back_after-3 : goal.returns-then-is_back_after-3
returns-then-is_back_after-3 c =
    rw (back_four c.args.entry.now (target_after c.args.frame.0 c.args.entry.now) c.args.targets.now, ← c.is_back_after.ensures, c.if-is_back_after.true, ← c.is_back_after-then-is_back_after.ensures, c.if-is_back_after-2.true, ← c.is_back_after-then-is_back_after-2.ensures, c.if-is_back_after-3.true) c.is_back_after-then-is_back_after-3.ensures
