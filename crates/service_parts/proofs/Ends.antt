-- An entry is the last of a frame of a repeating request exactly where the frame's row goes.
use Rattle.std.proofs.Common.{◌≡◌, ℕ, ◌==◌, Bool, true, false, ◌&&◌, not, List, ◌∷◌, Option, Some, None, refl, sym, ap, ◌∙◌, inl, inr, find, is_none, slice_index_or, if◌then◌else◌}
use Rattle.std.proofs.lemmas.Bool.{and_parts, cases_Bool, eqb-true, false≢true}
use Rattle.cam_types.specs.declared.number.BufferId.{BufferId}
use Rattle.cam_types.specs.declared.number.DeviceFenceNo.{DeviceFenceNo}
use Rattle.cam_types.specs.declared.number.FrameNo.{FrameNo}
use Rattle.cam_types.specs.declared.number.StreamIx.{StreamIx}
use Rattle.cam_types.specs.declared.row.RowView.{RowView}
use Rattle.cam_types.specs.declared.script.Script.{Script}
use Rattle.trace_model.specs.declared.entry.Entry.{Entry}
use Rattle.trace_model.specs.declared.entry.Entry.TheVariants.{Send, Early, Late}
use Rattle.trace_model.specs.Entry.{is_early_with, sends}
use Rattle.trace_model.specs.Frames.{is_repeating_frame, is_sent, repeats_in as repeats_of, send_of}
use Rattle.trace_model.specs.Legal.{IsLegal}
use Rattle.trace_model.specs.Open.{all_settled, early_fences, is_done, is_metadata_ended, is_open}
use Rattle.run_model.specs.declared.step.Move.{Move}
use Rattle.run_model.specs.declared.step.StepName.{StepName}
use Rattle.run_model.specs.History.{trace_of}
use Rattle.run_model.specs.Rows.{request_of, row_of, rows}
use Rattle.run_model.specs.Run.{IsRun}
use Rattle.device_rows.specs.Rows.{row_at}
use Rattle.basic_lemmas.proofs.Lists.{any-behind, found-passes}
use Rattle.run_model.proofs.Entries.{open-sent}
use Rattle.run_model.proofs.Legal.{runs_legally}
use Rattle.state_facts.specs.Clients.{ends_early, ends_frame, finishes}
use Rattle.trace_laws.specs.Settled.{has_fence}
use Rattle.trace_laws.proofs.Done.{done-stays}
use Rattle.trace_laws.proofs.Settled.{fence-frame}
use Rattle.trace_laws.proofs.Shapes.{late-is}
use Rattle.run_rows.proofs.Frames.{row-found}
use Rattle.run_rows.proofs.General.{none-found}
use Rattle.service_parts.specs.After.{ends_by, repeats_in}
use Rattle.service_parts.specs.Parts.{kinds}
use Rattle.service_parts.proofs.Accepted.{kind-read}
use Rattle.run_rows.proofs.WorkJobs.{open-found}
use Rattle.basic_lemmas.proofs.Tests.{own-number, done-not-open, open-not-done, closed-done, no-end}

-- ---- whether a frame's request repeats

repeats-by : (script : Script) (past : List Entry) (n : ℕ) (o : Option Entry) → IsLegal script past → is_sent n past ≡ true → send_of n past ≡ o → repeats_of script past o ≡ slice_index_or (kinds script past) (request_of o).0 false
repeats-by script past n None legal sent at = absurd (none-found (sends n) past sent at)
repeats-by script past n (Some (Send m r i same targets)) legal sent at = kind-read script past r.0 legal
repeats-by script past n (Some e) legal sent at = absurd (false≢true (found-passes (sends n) past e at))

repeats-read : (script : Script) (h : List Move) (n : ℕ) → IsLegal script (trace_of h) → is_open n (trace_of h) ≡ true → is_repeating_frame script (trace_of h) n ≡ repeats_in (kinds script (trace_of h)) (Some (row_of script h n))
repeats-read script h n legal open_ = repeats-by script (trace_of h) n (send_of n (trace_of h)) legal (open-sent n (trace_of h) open_) refl

-- ---- whether it is done with

-- the row goes exactly where the frame isn't open any more
row-goes : (script : Script) (m : Move) (h : List Move) (n : ℕ) → is_none (row_at n (rows script (m ∷ h))) ≡ not (is_open n (trace_of (m ∷ h)))
row-goes script m h n = ap (λ (o : Option RowView). is_none o) (row-found script (m ∷ h) n) ∙ by (is_open n (trace_of (m ∷ h))) (row_of script (m ∷ h) n)
  where
    by : (b : Bool) (row : RowView) → is_none (if b then Some row else None) ≡ not b
    by true row = refl
    by false row = refl

-- ---- so the end is read from the rows

abbrev pub with_move : StepName → Entry → List Move → List Move
with_move step e h = record { step = step; entry = Some e } ∷ h

end-open : (r r' now before now' : Bool) → r ≡ r' → before ≡ false → now ≡ now' → (r && (now && not before)) ≡ (r' && now')
end-open true r' true before now' a b c = rw (← a, b, ← c) refl
end-open true r' false before now' a b c = rw (← a, ← c) refl
end-open false r' now before now' a b c = rw (← a) refl

pub end-read : (script : Script) (h : List Move) (step : StepName) (e : Entry) (n : FrameNo) → IsRun script (with_move step e h) → sends n.0 e ≡ false → ends_frame script (trace_of h) n.0 e ≡ ends_by (kinds script (trace_of h)) (rows script h) (rows script (with_move step e h)) (Some n)
end-read script h step e n run other =
    let past = trace_of h in
    let legal = runs_legally script (with_move step e h) run in
    let now = is_metadata_ended n.0 (e ∷ past) && all_settled n.0 (e ∷ past) in
    let before = is_metadata_ended n.0 past && all_settled n.0 past in
    let left = rows script (with_move step e h) in
    elim (cases_Bool (is_open n.0 past)) [
      | inl open_ ↦ (
          let sent = open-sent n.0 past open_ in
          let undone : is_done n.0 past ≡ false = open-not-done (is_sent n.0 past) before open_ in
          let done' : is_done n.0 (e ∷ past) ≡ not (is_open n.0 (e ∷ past)) = done-not-open (is_sent n.0 (e ∷ past)) now (any-behind (sends n.0) e past sent) in
          end-open _ _ _ _ _ (repeats-read script h n.0 legal.1 open_) undone (done' ∙ sym (row-goes script (record { step = step; entry = Some e }) h n.0))
          ∙ ap (λ (o : Option RowView). repeats_in (kinds script past) o && is_none (row_at n.0 left)) (sym (open-found script h n.0 open_))
          )
      | inr closed ↦ (
          let done' : is_done n.0 past ≡ is_sent n.0 past = closed-done (is_sent n.0 past) before closed in
          let gone : row_at n.0 (rows script h) ≡ None = row-found script h n.0 ∙ rw closed refl in
          let none : ends_frame script past n.0 e ≡ false = ap (λ b. is_repeating_frame script past n.0 && (is_done n.0 (e ∷ past) && not b)) done'
          ∙ no-end (is_repeating_frame script past n.0) (is_done n.0 (e ∷ past)) (is_sent n.0 past)
          (λ sent. done-stays script past e n.0 legal.1 legal.0 (done' ∙ sent))
          (λ unsent. rw (other, unsent) refl) in
          none ∙ ap (λ (o : Option RowView). repeats_in (kinds script past) o && is_none (row_at n.0 left)) (sym gone)
          )
    ]

-- the signal of a device fence is of the frame whose early return has it
ends-at : (script : Script) (past : List Entry) (e : Entry) (o : Option Entry) (m : FrameNo) (t : StreamIx) (b : BufferId) (f : DeviceFenceNo) (n : ℕ) → o ≡ Some (Early m t b f) → m.0 ≡ n → ends_early script past e o ≡ ends_frame script past n e
ends-at script past e o m t b f n found same = ap (λ (x : Option Entry). ends_early script past e x) found ∙ ap (λ (i : ℕ). ends_frame script past i e) same

pub late-ends : (script : Script) (past : List Entry) (n s : ℕ) (d : DeviceFenceNo) (x : List ℕ) (rest : List ℕ) → IsLegal script (Late d x ∷ past) → early_fences n s past ≡ d.0 ∷ rest → finishes script past (Late d x) ≡ ends_frame script past n (Late d x)
late-ends script past n s d x rest legal fences =
    let is = late-is script past d x legal.0 in
    let m : FrameNo = is.0 in
    let t : StreamIx = is.1 in
    let b : BufferId = is.2 in
    let f : DeviceFenceNo = is.3 in
    let has : has_fence d.0 (early_fences n s past) ≡ true = ap (λ (fs : List ℕ). has_fence d.0 fs) fences ∙ rw (own-number d.0) refl in
    let own = and_parts (m.0 == n) (t.0 == s) (fence-frame script past d.0 m t b f n s legal.1 is.4 has) in
    ends-at script past (Late d x) (find (is_early_with d.0) past) m t b f n is.4 (eqb-true m.0 n own.0)
