use Rattle.std.proofs.Common.{◌∙◌, ℕ, Bool, reverse, arith, sym}
use Rattle.trace_model.specs.Place.{Device, place, is_at}
use Rattle.judge_rules.proofs.StreamLemmas.{counted-more}
use Rattle.judge_rules.proofs.room.count_at_device.Goals.{then-is_at_device, else-is_at_device}
use Rattle.judge_rules.proofs.room.count_at_device.Goals as goal

pub loop-number-preserved : goal.loop-number-preserved
loop-number-preserved c =
    let there : ℕ → Bool = λ b. is_at (place b (reverse c.args.entries.now)) Device in
    let step = counted-more there c.args.made.first.0 c.loop-number.number (omega arith) in
    elim c.if-is_at_device.branch [
      | then-is_at_device w ↦ (let one = rw (sym c.is_at_device.ensures ∙ w.if-is_at_device.true) at step in record {
        value = omega (arith, one, w.count-is);
        few = omega (arith, w.count-is);
      })
      | else-is_at_device w ↦ (let none = rw (sym c.is_at_device.ensures ∙ w.if-is_at_device.false) at step in record {
        value = omega (arith, none, w.count-is);
        few = omega (arith, w.count-is);
      })
    ]
