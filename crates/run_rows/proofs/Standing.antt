-- Each row is stopped where the service is stopping, and none else.
use Rattle.std.proofs.Common.{◌≡◌, Bool, true, false, List, refl, ap, ◌∙◌}
use Rattle.cam_types.specs.declared.script.Script.{Script}
use Rattle.trace_model.specs.Stopping.{is_stopping}
use Rattle.run_model.specs.declared.step.Move.{Move}
use Rattle.run_model.specs.History.{trace_of}
use Rattle.run_model.specs.Rows.{rows}
use Rattle.run_model.specs.Run.{IsRun}
use Rattle.run_model.proofs.Legal.{runs_legally}
use Rattle.run_rows.specs.Kept.{are_stopped_with, is_same}
use Rattle.run_rows.proofs.Counted.{each-row}
use Rattle.run_rows.proofs.Stopped.{open-stopped}

same-self : (b : Bool) → is_same b b ≡ true
same-self true = refl
same-self false = refl

pub stopped_is : (script : Script) (h : List Move) → IsRun script h → are_stopped_with (is_stopping (trace_of h)) (rows script h) ≡ true
stopped_is script h run =
    each-row script h (λ row. is_same row.stopped (is_stopping (trace_of h)))
    (λ n open_. ap (λ b. is_same b (is_stopping (trace_of h))) (open-stopped script (trace_of h) n (runs_legally script h run) open_) ∙ same-self (is_stopping (trace_of h)))
