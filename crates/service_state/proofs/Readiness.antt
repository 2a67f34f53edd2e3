-- A step is ready exactly where its test holds.
use Rattle.std.proofs.Common.{◌≡◌, ℕ, Bool, true, false, ◌&&◌, not, List, Option, Some, None, refl, ap, ◌∙◌, is_some, length, nat_lt, slice_get, if◌then◌else◌}
use Rattle.std.specs.Option.{option_and_then, option_map}
use Rattle.std.proofs.lemmas.Bool.{false≢true}
use Rattle.cam_types.specs.declared.number.FenceNo.{FenceNo}
use Rattle.cam_types.specs.declared.number.FrameNo.{FrameNo}
use Rattle.cam_types.specs.declared.number.StreamIx.{StreamIx}
use Rattle.cam_types.specs.declared.request.Queued.{Queued}
use Rattle.cam_types.specs.declared.row.RowView.{RowView}
use Rattle.cam_types.specs.declared.row.TargetView.{TargetView}
use Rattle.cam_types.specs.declared.stream.StreamSpec.{StreamSpec}
use Rattle.trace_model.specs.declared.entry.Entry.{Entry}
use Rattle.trace_model.specs.declared.entry.Sent.{Sent}
use Rattle.trace_model.specs.Send.{targets_in_order}
use Rattle.run_model.specs.Ready.{adding, or_entry, silent, where_entry}
use Rattle.run_model.specs.declared.step.StepName.{StepName}
use Rattle.run_model.specs.declared.step.StepName.TheVariants.{Client, FillDone, Finish, Send, Signal}
use Rattle.state_facts.specs.Turns.{next_of}
use Rattle.state_facts.specs.Homes.{signalled_in}
use Rattle.buffer_manager.specs.Taking.{least_targets_in}
use Rattle.state_facts.specs.Replies.{begin_in, call_in}
use Rattle.state_facts.specs.States.{send_of, targets_in}
use Rattle.device_rows.specs.Jobs.{fill_job_in, fill_job_of, is_fill_out}
use Rattle.device_rows.specs.Ready.{is_finish_ready, is_same_state, passes_at, target_passes}
use Rattle.cam_types.specs.declared.row.TargetState.TheVariants.{EarlyFilled}
use Rattle.device_rows.specs.Rows.{row_at, target_at, target_in}
use Rattle.run_rows.specs.Kept.{is_no_row}
use Rattle.service_parts.specs.Moves.{digest_by, early_fence_by, late_entry, may_go_by, move_by}
use Rattle.service_parts.specs.Parts.{Parts, base}
use Rattle.service_state.specs.Serving.{IsServing, Serving}
use Rattle.service_state.proofs.Outs.{finish_place}
use Rattle.service_state.proofs.Sending.{same_targets}

-- as a contract sees it
pub ready_as : (s t : Serving) → s ≡ t → (step : StepName) (b : Bool) → b ≡ is_some (move_by s.script s.parts step) → b ≡ is_some (move_by t.script t.parts step)
ready_as s t same step b is = is ∙ ap (λ (x : Serving). is_some (move_by x.script x.parts step)) same

-- ---- entries that are there

adds : (step : StepName) (o : Option Entry) → is_some (adding step o) ≡ is_some o
adds step (Some e) = refl
adds step None = refl

maps : {X Y : Type 0} (f : X → Y) (o : Option X) → is_some (option_map f o) ≡ is_some o
maps f (Some x) = refl
maps f None = refl

where-some : (step : StepName) (test : Bool) (o : Option Entry) → (test ≡ true → is_some o ≡ true) → is_some (adding step (where_entry test o)) ≡ test
where-some step true o there = adds step o ∙ there refl
where-some step false o there = refl

if-some : (step : StepName) (test : Bool) (e : Entry) → is_some (adding step (if test then Some e else None)) ≡ test
if-some step true e = refl
if-some step false e = refl

silent-some : (step : StepName) (test : Bool) → is_some (silent step test) ≡ test
silent-some step true = refl
silent-some step false = refl

-- ---- the target of a test that passes stands

stands-at : (test : TargetView → Bool) (o : Option TargetView) → passes_at test o ≡ true → is_some o ≡ true
stands-at test (Some target) passes = refl
stands-at test None passes = absurd (false≢true passes)

stands-in : (test : RowView → TargetView → Bool) (s : ℕ) (o : Option RowView) → target_passes test s o ≡ true → is_some (option_and_then (target_at s) o) ≡ true
stands-in test s (Some row) passes = stands-at (test row) (target_at s row) passes
stands-in test s None passes = absurd (false≢true passes)

-- ---- sends

sending : (p : Parts) (next : Queued) (may : Bool) (o : Option (List Sent)) → is_some (adding Send (if may then send_of (base p) next o else None)) ≡ (may && is_some o)
sending p next true (Some targets) = refl
sending p next true None = refl
sending p next false o = refl

pub next_sent : (s : Serving) (next : Queued) → next_of s.parts.queue ≡ Some next → is_some (move_by s.script s.parts Send) ≡ (may_go_by s.script s.parts next && is_some (least_targets_in s.parts.buffers (targets_in_order next.item)))
next_sent s next at =
    let some = sending s.parts next (may_go_by s.script s.parts next) (targets_in (base s.parts) (targets_in_order next.item)) in
    let least = ap (λ (o : Option (List Sent)). may_go_by s.script s.parts next && is_some o) (same_targets s.parts (targets_in_order next.item)) in
    rw at (some ∙ least)

-- ---- the client

pub signal_is : (s : Serving) (f : FenceNo) → is_some (move_by s.script s.parts (Signal f)) ≡ (nat_lt f.0 (length s.parts.buffers.signalled) && not (signalled_in s.parts.buffers f.0))
signal_is s f = if-some (Signal f) (nat_lt f.0 (length s.parts.buffers.signalled) && not (signalled_in s.parts.buffers f.0)) _

pub call_is : (s : Serving) → is_some (move_by s.script s.parts Client) ≡ is_some (or_entry (begin_in s.script s.parts.client) (call_in s.script (is_no_row s.parts.rows) s.parts.client s.parts.queue s.parts.buffers))
call_is s = adds Client (or_entry (begin_in s.script s.parts.client) (call_in s.script (is_no_row s.parts.rows) s.parts.client s.parts.queue s.parts.buffers))

-- ---- buffers

fill-of : (row : RowView) (o : Option TargetView) (spec : Option StreamSpec) → is_some (fill_job_of row o spec) ≡ (passes_at (λ target. is_fill_out target.state) o && is_some spec)
fill-of row (Some target) (Some spec) = by (is_fill_out target.state) refl
  where
    by : (b : Bool) → is_fill_out target.state ≡ b → is_some (fill_job_of row (Some target) (Some spec)) ≡ (passes_at (λ (x : TargetView). is_fill_out x.state) (Some target) && true)
    by true is = rw is refl
    by false is = rw is refl
fill-of row (Some target) None = by (is_fill_out target.state)
  where
    by : (b : Bool) → false ≡ (b && false)
    by true = refl
    by false = refl
fill-of row None (Some spec) = refl
fill-of row None None = refl

fill-in : (specs : List StreamSpec) (s : ℕ) (o : Option RowView) → is_some (fill_job_in specs s o) ≡ (target_passes (λ row target. is_fill_out target.state) s o && is_some (slice_get specs s))
fill-in specs s (Some row) = fill-of row (target_at s row) (slice_get specs s)
fill-in specs s None = refl

pub fill_is : (s : Serving) (n : FrameNo) (t : StreamIx) → is_some (move_by s.script s.parts (FillDone n t)) ≡ (target_passes (λ row target. is_fill_out target.state) t.0 (row_at n.0 s.parts.rows) && is_some (slice_get s.parts.client.streams t.0))
fill_is s n t =
    silent-some (FillDone n t) (is_some (fill_job_in s.parts.client.streams t.0 (row_at n.0 s.parts.rows))) ∙ fill-in s.parts.client.streams t.0 (row_at n.0 s.parts.rows)

-- a buffer that came back early has its device fence
pub finish_is : (s : Serving) → IsServing s → (n : FrameNo) (t : StreamIx) → is_some (move_by s.script s.parts (Finish n t)) ≡ is_finish_ready s.parts.rows n.0 t.0
finish_is s serving n t =
    let entry = late_entry (digest_by s.parts n.0 t.0) in
    let fence = early_fence_by s.parts n.0 t.0 in
    where-some (Finish n t) (is_finish_ready s.parts.rows n.0 t.0) (option_map entry fence)
    (λ may. maps entry fence ∙ by may (target_in n.0 t.0 s.parts.rows) refl (stands-in (λ row target. is_same_state target.state EarlyFilled) t.0 (row_at n.0 s.parts.rows) may))
  where
    by : is_finish_ready s.parts.rows n.0 t.0 ≡ true → (o : Option TargetView) → target_in n.0 t.0 s.parts.rows ≡ o → is_some o ≡ true → is_some (early_fence_by s.parts n.0 t.0) ≡ true
    by may (Some target) at there = rw (at, (finish_place s serving n.0 t.0 target may at).1.fence) refl
    by may None at there = absurd (false≢true there)

-- what fails at its first part fails
pub not_first : (r p q : Bool) → r ≡ p → r ≡ false → r ≡ (p && q)
not_first r p q same no' = rw (← same, no') refl

-- what passes its first part is as its second
pub then_second : (r p q : Bool) → p ≡ true → r ≡ q → r ≡ (p && q)
then_second r p q yes' same = rw (yes', same) refl
