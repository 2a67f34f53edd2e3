use Rattle.std.proofs.Common.{◌≡◌, arith, refl}
use Rattle.allowed_entries.specs.Readings.{lates_in}
use Rattle.allowed_entries.proofs.Numbers.{one_more}
use Rattle.allowed_entries.proofs.fences.add_lates.Goals as goal

pub loop-number-preserved : goal.loop-number-preserved
loop-number-preserved c =
    one_more _ 0 c.loop-number.number c.loop-number.number _ _ _ _ _ (omega arith) refl c.loop-number.invariant c.late_due.ensures c.in_ok-add.ensures

pub returns : goal.returns
unfolding lates_in
returns c =
    let all : c.loop-number.number ≡ c.args.count = omega (arith, c.loop-number-test.false, c.loop-number.auto.number-end) in
    rw (← all) c.loop-number.invariant
