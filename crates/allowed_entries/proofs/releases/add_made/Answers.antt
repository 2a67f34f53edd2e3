use Rattle.std.proofs.Common.{◌+◌, ◌-◌, ap, arith}
use Rattle.allowed_entries.specs.Known.{shown}
use Rattle.allowed_entries.proofs.Numbers.{one_more}
use Rattle.allowed_entries.proofs.releases.add_made.Goals as goal

pub loop-number-preserved : goal.loop-number-preserved
loop-number-preserved c =
    one_more _ c.from-first.result (c.loop-number.number - c.from-first.result) c.loop-number.number (c.loop-number.number + 1 - c.from-first.result) _ _ _ _ (omega (arith, c.loop-number.auto.number)) (omega (arith, c.loop-number.auto.number)) c.loop-number.invariant (ap shown c.release_due.ensures) c.in_ok-add_due.ensures
