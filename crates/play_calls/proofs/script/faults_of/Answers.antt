use Rattle.std.proofs.Common.{◌∙◌, sym, arith, rules}
use Rattle.play_calls.specs.Words.{state_after}
use Rattle.play_calls.proofs.Steps.{word-step, fault-added, fault-without-room, fault-none}
use Rattle.play_calls.proofs.script.faults_of.Goals as goal
use Rattle.play_calls.proofs.script.faults_of.Goals.{then-has_fault+then-len-lt-FAULT_LIMIT+in_ok-push, else-has_fault, else-has_fault-via-then-has_fault+else-len-lt-FAULT_LIMIT, else-has_fault-via-else-has_fault}

pub loop-done-init : goal.loop-done-init
unfolding state_after
loop-done-init c = record { faults = search rules; generator = c.seed_from_u64-generator.ensures.same }

-- the fault is there and there is room, there is no room, or there is no fault
pub loop-done-preserved : goal.loop-done-preserved
loop-done-preserved c =
    let step = word-step c.args.seed c.loop-done.done _ _ _ c.loop-done.invariant.generator c.next_word-word.ensures in
    record {
      faults =
          elim c.if-has_fault.branch [
            | then-has_fault+then-len-lt-FAULT_LIMIT+in_ok-push w ↦
                fault-added c.args.seed c.loop-done.done _ _ c.loop-done.invariant.faults step.0 _ _
                (sym c.has_fault.ensures ∙ w.if-has_fault.true) (omega (arith, w.len.ensures)) w.fault_of.ensures
                (w.faults-is ∙ w.in_ok-push.ensures.ok)
            | else-has_fault w ↦
                elim w.else-has_fault.branch [
                  | else-has_fault-via-then-has_fault+else-len-lt-FAULT_LIMIT v ↦
                      fault-without-room c.args.seed c.loop-done.done _ _ c.loop-done.invariant.faults step.0 _
                      (omega (arith, v.len.ensures)) w.faults-is
                  | else-has_fault-via-else-has_fault v ↦
                      fault-none c.args.seed c.loop-done.done _ _ c.loop-done.invariant.faults step.0 _
                      (sym c.has_fault.ensures ∙ v.if-has_fault.false) w.faults-is
                ]
          ];
      generator = step.1;
    }
