use Rattle.std.proofs.Common.{[], sym, ◌∙◌, arith}
use Rattle.buffer_manager.specs.Managed.{homes_with}
use Rattle.buffer_manager.proofs.Owners.{away-more}
use Rattle.buffer_manager.proofs.manager.BufferManager.away_count.Goals as goal
use Rattle.buffer_manager.proofs.manager.BufferManager.away_count.Goals.{then-is_away, else-is_away}

pub loop-step-preserved : goal.loop-step-preserved
loop-step-preserved c =
    let more = away-more (homes_with [] c.args.self.now) c.args.made.first.0 c.loop-step.step in
    let so-far = c.loop-step.invariant.counted in
    let few = c.loop-step.invariant.few in
    elim c.if-is_away.branch [
      | then-is_away w ↦ (
          let yes' = sym c.is_away.ensures ∙ w.if-is_away.true in
          let more' = rw yes' at more in
          let is = w.away-is in
          record { counted = omega (arith, more', so-far, is); few = omega (arith, few, is) }
          )
      | else-is_away w ↦ (
          let no' = sym c.is_away.ensures ∙ w.if-is_away.false in
          let more' = rw no' at more in
          let is = w.away-is in
          record { counted = omega (arith, more', so-far, is); few = omega (arith, few, is) }
          )
    ]
