-- The moves of the steps that give a buffer back.
use Rattle.std.proofs.Common.{◌≡◌, ℕ, Bool, true, false, ◌&&◌, List, Option, Some, None, refl, ap, ◌∙◌, is_some}
use Rattle.std.specs.Option.{option_and_then, option_map}
use Rattle.cam_types.specs.declared.number.FrameNo.{FrameNo}
use Rattle.cam_types.specs.declared.number.StreamIx.{StreamIx}
use Rattle.cam_types.specs.declared.row.RowView.{RowView}
use Rattle.cam_types.specs.declared.row.TargetView.{TargetView}
use Rattle.cam_types.specs.declared.script.Script.{Script}
use Rattle.trace_model.specs.declared.entry.Entry.{Entry}
use Rattle.trace_model.specs.Numbers.{next_early}
use Rattle.trace_model.specs.Fence.{is_signalled}
use Rattle.trace_model.specs.Picture.{digest_of}
use Rattle.run_model.specs.declared.step.Move.{Move}
use Rattle.run_model.specs.declared.step.StepName.{StepName}
use Rattle.run_model.specs.declared.step.StepName.TheVariants.{ReturnFailed, Deliver, Early}
use Rattle.run_model.specs.History.{trace_of}
use Rattle.run_model.specs.Ready.{adding, move_of, where_entry}
use Rattle.run_model.specs.Rows.{rows}
use Rattle.run_model.specs.Run.{IsRun}
use Rattle.device_rows.specs.Ready.{is_delivery_ready, is_early_ready, is_failed_return_ready, may_deliver, may_go_early, may_return_failed, passes_at, target_passes}
use Rattle.device_rows.specs.Rows.{row_at, target_at}
use Rattle.run_rows.specs.Entries.{early_entry, failed_entry, filled_entry}
use Rattle.run_rows.specs.Moves.{delivery_move, early_move, failed_move}
use Rattle.run_rows.proofs.Buffers.{deliver_is, early_return_is, failed_return_is}

-- ---- a step that is ready has its move

some-at : (step : StepName) (entry : TargetView → Entry) (first : Bool) (test : TargetView → Bool) (o : Option TargetView) → is_some (adding step (where_entry (first && passes_at test o) (option_map entry o))) ≡ (first && passes_at test o)
some-at step entry true test None = refl
some-at step entry false test None = refl
some-at step entry false test (Some t) = refl
some-at step entry true test (Some t) = by (test t)
  where
    by : (b : Bool) → is_some (adding step (where_entry b (Some (entry t)))) ≡ b
    by true = refl
    by false = refl

some-in : (step : StepName) (entry : TargetView → Entry) (first : Bool) (test : RowView → TargetView → Bool) (s : ℕ) (o : Option RowView) → is_some (adding step (where_entry (first && target_passes test s o) (option_map entry (option_and_then (target_at s) o)))) ≡ (first && target_passes test s o)
some-in step entry true test s None = refl
some-in step entry false test s None = refl
some-in step entry first test s (Some row) = some-at step entry first (test row) (target_at s row)

-- ---- each of the steps

pub delivery_is : (script : Script) (h : List Move) (n : FrameNo) (s : StreamIx) → IsRun script h → move_of script h (Deliver n s) ≡ delivery_move script (trace_of h) (rows script h) n s
delivery_is script h n s run = ap (λ (o : Option Entry). adding (Deliver n s) o) (deliver_is script h n.0 s.0 run)

pub delivery_ready : (script : Script) (h : List Move) (n : FrameNo) (s : StreamIx) → IsRun script h → is_some (move_of script h (Deliver n s)) ≡ is_delivery_ready script.faults (rows script h) n.0 s.0
delivery_ready script h n s run =
    ap (λ (o : Option Move). is_some o) (delivery_is script h n s run)
    ∙ some-in (Deliver n s) (filled_entry (digest_of script (trace_of h) n.0 s.0) n.0 s.0) true (may_deliver script.faults (rows script h)) s.0 (row_at n.0 (rows script h))

pub early_is : (script : Script) (h : List Move) (n : FrameNo) (s : StreamIx) → IsRun script h → move_of script h (Early n s) ≡ early_move script (trace_of h) (rows script h) n s
early_is script h n s run = ap (λ (o : Option Entry). adding (Early n s) o) (early_return_is script h n.0 s.0 run)

pub early_ready : (script : Script) (h : List Move) (n : FrameNo) (s : StreamIx) → IsRun script h → is_some (move_of script h (Early n s)) ≡ (script.early && is_early_ready script.faults (rows script h) n.0 s.0)
early_ready script h n s run =
    ap (λ (o : Option Move). is_some o) (early_is script h n s run)
    ∙ some-in (Early n s) (early_entry (next_early (trace_of h)) n.0 s.0) script.early (may_go_early script.faults (rows script h)) s.0 (row_at n.0 (rows script h))

pub failed_is : (script : Script) (h : List Move) (n : FrameNo) (s : StreamIx) → IsRun script h → move_of script h (ReturnFailed n s) ≡ failed_move (trace_of h) (rows script h) n s
failed_is script h n s run = ap (λ (o : Option Entry). adding (ReturnFailed n s) o) (failed_return_is script h n.0 s.0 run)

pub failed_ready : (script : Script) (h : List Move) (n : FrameNo) (s : StreamIx) → IsRun script h → is_some (move_of script h (ReturnFailed n s)) ≡ is_failed_return_ready (rows script h) n.0 s.0
failed_ready script h n s run =
    ap (λ (o : Option Move). is_some o) (failed_is script h n s run)
    ∙ some-in (ReturnFailed n s) (failed_entry (λ i. is_signalled i (trace_of h)) n.0 s.0) true may_return_failed s.0 (row_at n.0 (rows script h))
