-- The signal of a device fence is read from the parts: it is of the fence that the buffers hold for the row's target.
use Rattle.std.proofs.Common.{◌≡◌, ℕ, ◌==◌, Bool, true, false, List, [], ◌∷◌, Option, Some, None, refl, sym, ap, ◌∙◌, inl, inr, find, is_some}
use Rattle.std.specs.Option.{option_and_then, option_map}
use Rattle.std.proofs.lemmas.Bool.{and_parts, cases_Bool, eqb-true, false≢true}
use Rattle.cam_types.specs.declared.number.BufferId.{BufferId}
use Rattle.cam_types.specs.declared.number.DeviceFenceNo.{DeviceFenceNo}
use Rattle.cam_types.specs.declared.number.FrameNo.{FrameNo}
use Rattle.cam_types.specs.declared.number.StreamIx.{StreamIx}
use Rattle.cam_types.specs.declared.row.RowView.{RowView}
use Rattle.cam_types.specs.declared.row.TargetState.TheVariants.{EarlyFilled}
use Rattle.cam_types.specs.declared.row.TargetView.{TargetView}
use Rattle.cam_types.specs.declared.script.Script.{Script}
use Rattle.trace_model.specs.declared.entry.Entry.{Entry}
use Rattle.trace_model.specs.declared.entry.Entry.TheVariants.{Early, Late}
use Rattle.trace_model.specs.declared.entry.Sent.{Sent}
use Rattle.trace_model.specs.Entry.{is_early_with}
use Rattle.trace_model.specs.Fence.{is_late}
use Rattle.trace_model.specs.Filled.{late_of}
use Rattle.trace_model.specs.Frames.{target_of}
use Rattle.trace_model.specs.Legal.{IsLegal}
use Rattle.trace_model.specs.Open.{early_fences, is_open}
use Rattle.trace_model.specs.Picture.{digest_of}
use Rattle.run_model.specs.declared.step.Move.{Move}
use Rattle.run_model.specs.declared.step.StepName.{StepName}
use Rattle.run_model.specs.declared.step.StepName.TheVariants.{Finish}
use Rattle.run_model.specs.History.{trace_of}
use Rattle.run_model.specs.Jobs.{is_filled_in}
use Rattle.run_model.specs.Ready.{adding, late_with, move_of, where_entry}
use Rattle.run_model.specs.Rows.{rows}
use Rattle.run_model.specs.Run.{IsRun}
use Rattle.device_rows.specs.Ready.{is_finish_ready, is_same_state, target_passes}
use Rattle.device_rows.specs.Rows.{row_at, target_at}
use Rattle.run_model.proofs.Legal.{runs_legally}
use Rattle.state_facts.specs.Homes.{held_in, homes}
use Rattle.trace_laws.specs.Settled.{has_fence}
use Rattle.trace_laws.proofs.Settled.{fence-frame}
use Rattle.run_rows.specs.Entries.{finish_entry}
use Rattle.run_rows.specs.Moves.{finish_move}
use Rattle.run_rows.proofs.Finish.{finish_is, finish_ready}
use Rattle.run_rows.proofs.Fours.{view-found}
use Rattle.run_rows.proofs.Frames.{row-found}
use Rattle.service_parts.specs.Moves.{digest_by, early_fence_by, late_entry, move_by}
use Rattle.service_parts.specs.Parts.{parts}
use Rattle.service_parts.proofs.Lent.{Lent, lent-held, lent-until, same-fence}
use Rattle.service_parts.proofs.Pictures.{digest-read}
use Rattle.run_rows.proofs.WorkJobs.{open-found}
use Rattle.basic_lemmas.proofs.Tests.{own-number}

-- ---- the early return of a fence that isn't signalled

-- what is signalled when the step is ready: the one device fence, which is held for the frame's target
pub record Held (past : List Entry) (n s d : ℕ) : Type 0 where
  pub target : Sent
  pub found : target_of n s past ≡ Some target
  pub held : held_in (homes past) target.buffer.0 ≡ Some (record { 0 = d })

held-at : (script : Script) (past : List Entry) (n s d : ℕ) (m : FrameNo) (t : StreamIx) (b : BufferId) (f : DeviceFenceNo) → IsLegal script past → Lent past m t b f → f.0 ≡ d → m.0 ≡ n → t.0 ≡ s → Held past n s d
held-at script past n s d m t b f legal lent fence frame stream =
    let held = lent-held script past m t b f legal lent in
    let held' : held_in (homes past) lent.target.buffer.0 ≡ Some f = ap (λ (c : BufferId). held_in (homes past) c.0) lent.buffer ∙ held in
    let all : Held past m.0 t.0 f.0 = record { target = lent.target; found = lent.found; held = held' } in
    rw (fence, frame, stream) at all

held-by : (script : Script) (past : List Entry) (n s d : ℕ) (rest : List ℕ) (o : Option Entry) → IsLegal script past → early_fences n s past ≡ d ∷ rest → find (is_early_with d) past ≡ o → is_some (late_of script past d o) ≡ true → Held past n s d
held-by script past n s d rest None legal at found some = absurd (false≢true some)
held-by script past n s d rest (Some (Early m t b f)) legal at found some = elim (cases_Bool (is_late d past)) [
  | inl late ↦ (let some' = rw late at some in absurd (false≢true some'))
  | inr early ↦ (
      let has : has_fence d (early_fences n s past) ≡ true = ap (λ (fs : List ℕ). has_fence d fs) at ∙ rw (own-number d) refl in
      let own = and_parts (m.0 == n) (t.0 == s) (fence-frame script past d m t b f n s legal found has) in
      let fence : f.0 ≡ d = same-fence past d m t b f found in
      held-at script past n s d m t b f legal (lent-until script past d m t b f legal found early) fence (eqb-true m.0 n own.0) (eqb-true t.0 s own.1)
      )
]
held-by script past n s d rest (Some _) legal at found some = absurd (false≢true some)

-- ---- where the step is ready

step-some : (step : StepName) (b : Bool) (o : Option Entry) → is_some (adding step (where_entry b o)) ≡ true → is_some o ≡ true
step-some step true None h = h
step-some step true (Some e) h = refl
step-some step false o h = absurd (false≢true h)

fences-held : (script : Script) (past : List Entry) (n s : ℕ) (fences : List ℕ) → IsLegal script past → early_fences n s past ≡ fences → is_some (late_with script past fences) ≡ true → (d : ℕ) × (rest : List ℕ) × (fences ≡ d ∷ rest) × Held past n s d
fences-held script past n s [] legal at some = absurd (false≢true some)
fences-held script past n s (d ∷ rest) legal at some = (d, rest, refl, held-by script past n s d rest (find (is_early_with d) past) legal at refl some)

-- a frame of which a target passes a test has its row, and is open
pub passing-open : (script : Script) (h : List Move) (test : RowView → TargetView → Bool) (n s : ℕ) → target_passes test s (row_at n (rows script h)) ≡ true → is_open n (trace_of h) ≡ true
passing-open script h test n s passes = elim (cases_Bool (is_open n (trace_of h))) [
  | inl open_ ↦ open_
  | inr closed ↦ (
      let found : row_at n (rows script h) ≡ None = row-found script h n ∙ rw closed refl in
      let passes' = rw found at passes in
      absurd (false≢true passes')
      )
]

fence-read : (script : Script) (h : List Move) (n s d : ℕ) → is_open n (trace_of h) ≡ true → Held (trace_of h) n s d → early_fence_by (parts script h) n s ≡ Some (record { 0 = d })
fence-read script h n s d open_ held =
    let row = open-found script h n open_ in
    ap (λ (o : Option RowView). option_and_then (λ (target : TargetView). held_in (homes (trace_of h)) target.buffer.0) (option_and_then (target_at s) o)) row
    ∙ (ap (λ (o : Option TargetView). option_and_then (λ (target : TargetView). held_in (homes (trace_of h)) target.buffer.0) o) (view-found script h n s held.target held.found)
    ∙ held.held)

one-fence : (digest : List ℕ) (d : ℕ) (rest : List ℕ) → is_some (finish_entry digest (d ∷ rest)) ≡ true → finish_entry digest (d ∷ rest) ≡ Some (Late (record { 0 = d }) digest)
one-fence digest d [] h = refl
one-fence digest d (x ∷ rest) h = absurd (false≢true h)

ready-same : (script : Script) (h : List Move) (n : FrameNo) (s : StreamIx) → IsRun script h → is_finish_ready (rows script h) n.0 s.0 ≡ true → finish_entry (digest_of script (trace_of h) n.0 s.0) (early_fences n.0 s.0 (trace_of h)) ≡ option_map (late_entry (digest_by (parts script h) n.0 s.0)) (early_fence_by (parts script h) n.0 s.0)
ready-same script h n s run ready =
    let past = trace_of h in
    let digest = digest_of script past n.0 s.0 in
    let open_ = passing-open script h (λ row target. is_same_state target.state EarlyFilled) n.0 s.0 ready in
    let some : is_some (move_of script h (Finish n s)) ≡ true = finish_ready script h n s run ∙ ready in
    let due = step-some (Finish n s) (is_filled_in h n.0 s.0) (late_with script past (early_fences n.0 s.0 past)) some in
    let all = fences-held script past n.0 s.0 (early_fences n.0 s.0 past) (runs_legally script h run) refl due in
    let some' : is_some (finish_move script past (rows script h) n s) ≡ true = sym (ap (λ (o : Option Move). is_some o) (finish_is script h n s run)) ∙ some in
    let entry = step-some (Finish n s) (is_finish_ready (rows script h) n.0 s.0) (finish_entry digest (early_fences n.0 s.0 past)) some' in
    let entry' : is_some (finish_entry digest (all.0 ∷ all.1)) ≡ true = rw (← all.2) entry in
    ap (λ (fs : List ℕ). finish_entry digest fs) all.2
    ∙ (one-fence digest all.0 all.1 entry'
    ∙ (ap (λ (x : List ℕ). Some (Late (record { 0 = all.0 }) x)) (digest-read script h n.0 s.0 open_)
    ∙ ap (λ (o : Option DeviceFenceNo). option_map (late_entry (digest_by (parts script h) n.0 s.0)) o) (sym (fence-read script h n.0 s.0 all.0 open_ all.3))))

pub where-same : (b : Bool) (x y : Option Entry) → (b ≡ true → x ≡ y) → where_entry b x ≡ where_entry b y
where-same true x y h = h refl
where-same false x y h = refl

pub finish-read : (script : Script) (h : List Move) (n : FrameNo) (s : StreamIx) → IsRun script h → move_of script h (Finish n s) ≡ move_by script (parts script h) (Finish n s)
finish-read script h n s run =
    finish_is script h n s run
    ∙ ap (λ (o : Option Entry). adding (Finish n s) o) (where-same (is_finish_ready (rows script h) n.0 s.0) _ _ (ready-same script h n s run))
