use Rattle.std.proofs.Common.{◌≡◌, ◌∙◌, ap, arith, refl}
use Rattle.state_facts.specs.Homes.{Homes, signal_in}
use Rattle.allowed_entries.specs.Known.{shown}
use Rattle.allowed_entries.specs.Readings.{signals_in}
use Rattle.allowed_entries.proofs.Numbers.{one_more}
use Rattle.allowed_entries.proofs.fences.add_signals.Goals as goal

pub loop-number-preserved : goal.loop-number-preserved
loop-number-preserved c =
    one_more _ 0 c.loop-number.number c.loop-number.number _ _ _ _ _ (omega arith) refl c.loop-number.invariant (ap shown (c.signal_due.ensures ∙ ap (λ (h : Homes). signal_in h c.loop-number.number) c.homes.ensures)) c.in_ok-add_due.ensures

pub returns : goal.returns
unfolding signals_in
returns c =
    let all : c.loop-number.number ≡ c.args.count = omega (arith, c.loop-number-test.false, c.loop-number.auto.number-end) in
    rw (← all) c.loop-number.invariant
