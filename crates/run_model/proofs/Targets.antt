-- A fill is of a target of its frame, which keeps its targets; nothing of a frame that wasn't sent is exposed.
use Rattle.std.proofs.Common.{◌≡◌, ℕ, ◌==◌, true, false, List, [], ◌∷◌, Option, Some, None, refl, ap, ◌∙◌, inl, inr, find}
use Rattle.std.specs.List.{list_any}
use Rattle.std.proofs.lemmas.Bool.{cases_Bool, false≢true}
use Rattle.cam_types.specs.declared.script.Script.{Script}
use Rattle.trace_model.specs.declared.entry.Entry.{Entry}
use Rattle.trace_model.specs.declared.entry.Sent.{Sent}
use Rattle.trace_model.specs.Frames.{has_target, is_sent, send_of, target_of, targets_in, targets_of}
use Rattle.trace_model.specs.Legal.{IsLegal}
use Rattle.run_model.specs.declared.step.Move.{Move}
use Rattle.run_model.specs.History.{trace_of, with_entry, is_take_fill}
use Rattle.run_model.specs.Jobs.{is_filled_in, is_taken_in}
use Rattle.run_model.specs.Ready.{target_is_passed}
use Rattle.run_model.specs.Run.{IsRun}
use Rattle.trace_laws.proofs.Shutters.{shutter-sent}
use Rattle.run_model.proofs.Entries.{open-sent, target-has}
use Rattle.run_model.proofs.Legal.{runs_legally}
use Rattle.trace_laws.proofs.Frames.{sent-once}
use Rattle.run_model.proofs.Unsent.{done-shot, filled-taken, take-parts, take-ready, taken-done}
use Rattle.basic_lemmas.proofs.Tests.{not-by}
pub use Rattle.trace_laws.proofs.Told.{unexposed as dark-next}

send-same : (script : Script) (past : List Entry) (o : Option Entry) (n : ℕ) → IsLegal script (with_entry o past) → is_sent n past ≡ true → send_of n (with_entry o past) ≡ send_of n past
send-same script past (Some e) n legal sent = rw (sent-once script past e n legal.1 legal.0 sent) refl
send-same script past None n legal sent = refl

pub targets-same : (script : Script) (past : List Entry) (o : Option Entry) (n : ℕ) → IsLegal script (with_entry o past) → is_sent n past ≡ true → targets_of n (with_entry o past) ≡ targets_of n past
targets-same script past o n legal sent = ap (λ (e : Option Entry). targets_in e) (send-same script past o n legal sent)

-- ---- a fill is of a target

passed-some : (past : List Entry) (o : Option Sent) (n s : ℕ) → target_of n s past ≡ o → target_is_passed past o ≡ true → has_target n s past ≡ true
passed-some past (Some t) n s at h = target-has n s past t at
passed-some past None n s at h = absurd (false≢true h)

pub taken_target : (script : Script) (h : List Move) (n s : ℕ) → IsRun script h → is_taken_in h n s ≡ true → has_target n s (trace_of h) ≡ true
taken_target script [] n s run is = absurd (false≢true is)
taken_target script (m ∷ h) n s run is =
    let past = trace_of h in
    let before : (has_target n s past ≡ true) × (is_sent n past ≡ true) = elim (cases_Bool (is_take_fill n s m.step)) [
      | inl here ↦ (let may = take-parts script h n s (take-ready script h m.step m n s run.0 here) in (passed-some past (target_of n s past) n s refl may.passed, open-sent n past may.open_))
      | inr other ↦ (
          let is' = rw other at is in
          (taken_target script h n s run.1 is', shutter-sent script past n (runs_legally script h run.1) (done-shot script h n run.1 (taken-done script h n s run.1 is')))
          )
    ] in
    ap (λ (ts : List Sent). list_any (λ t. t.stream.0 == s) ts) (targets-same script past m.entry n (runs_legally script (m ∷ h) run) before.1) ∙ before.0

none-has : (s : ℕ) (targets : List Sent) → find (λ t. t.stream.0 == s) targets ≡ None → list_any (λ t. t.stream.0 == s) targets ≡ false
none-has s [] h = refl
none-has s (t ∷ targets) h = elim (cases_Bool (t.stream.0 == s)) [
  | inl here ↦ (let h' = rw here at h in absurd (cc))
  | inr other ↦ (let h' = rw other at h in rw other (none-has s targets h'))
]

pub untaken : (script : Script) (h : List Move) (n s : ℕ) → IsRun script h → has_target n s (trace_of h) ≡ false → is_taken_in h n s ≡ false
untaken script h n s run none = not-by (is_taken_in h n s) (has_target n s (trace_of h)) (taken_target script h n s run) none

pub unfilled : (script : Script) (h : List Move) (n s : ℕ) → IsRun script h → target_of n s (trace_of h) ≡ None → is_filled_in h n s ≡ false
unfilled script h n s run at = not-by (is_filled_in h n s) (is_taken_in h n s) (filled-taken script h n s run) (untaken script h n s run (none-has s (targets_of n (trace_of h)) at))
