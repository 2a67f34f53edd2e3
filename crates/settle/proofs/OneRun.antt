-- The picks make one run, and a send goes first.
use Rattle.std.proofs.Common.{◌≡◌, ℕ, ◌<◌, ◌%◌, Bool, true, List, [], ◌∷◌, Option, None, Some, is_some, refl, sym, ap, ◌∙◌, arith, inl, inr, length, slice_get, filter, unwrap_or}
use Rattle.std.proofs.Math.Nat.{zero-mod}
use Rattle.std.proofs.lemmas.Bool.{cases_lt, cases_eq}
use Rattle.cam_types.specs.declared.script.Script.{Script}
use Rattle.trace_model.specs.declared.entry.Entry.{Entry}
use Rattle.trace_model.specs.Complete.{IsComplete}
use Rattle.trace_model.specs.Send.{send_due}
use Rattle.run_model.specs.declared.step.Move.{Move}
use Rattle.run_model.specs.declared.step.StepName.{StepName}
use Rattle.run_model.specs.declared.step.StepName.TheVariants.{Send}
use Rattle.run_model.specs.History.{trace_of, with_entry}
use Rattle.run_model.specs.Played.{IsPlayed, IsPlayedRun, chosen, move_at, pick_at}
use Rattle.run_model.specs.Ready.{adding, is_ready}
use Rattle.settle.specs.Sending.{SendsFirst}

one-move : (script : Script) (h k : List Move) (m n : Move) → h ≡ k → move_at script h (chosen script h) ≡ Some m → move_at script k (chosen script k) ≡ Some n → m ≡ n
one-move script h k m n same a b =
    let both : Some m ≡ Some n = sym a ∙ (ap (λ (x : List Move). move_at script x (chosen script x)) same ∙ b) in
    cc

-- played histories of one length are the same
one-run : (script : Script) (h k : List Move) → IsPlayed script h → IsPlayed script k → length h ≡ length k → h ≡ k
one-run script [] [] a b e = refl
one-run script [] (n ∷ k) a b e = absurd (omega (arith, e))
one-run script (m ∷ h) [] a b e = absurd (omega (arith, e))
one-run script (m ∷ h) (n ∷ k) a b e =
    let rest = one-run script h k a.2 b.2 (omega (arith, e)) in
    let first = one-move script h k m n rest a.1 b.1 in
    rw (first, rest) refl

-- a complete history is no proper end of a played one
not-longer : (script : Script) (h k : List Move) → IsPlayed script h → IsComplete script (trace_of h) → IsPlayed script k → length h < length k → ⊥
not-longer script h [] a done b l = absurd (omega arith)
not-longer script h (n ∷ k) a done b l =
    elim (cases_eq (length h) (length k)) [
      | inl e ↦ (let same = one-run script h k a b.2 e in b.0 (rw same at done))
      | inr ne ↦ not-longer script h k a done b.2 (omega arith)
    ]

pub one_played_run : (script : Script) (a b : List Move) → IsPlayedRun script a → IsPlayedRun script b → a ≡ b
one_played_run script a b p q =
    elim (cases_eq (length a) (length b)) [
      | inl e ↦ one-run script a b p.played q.played e
      | inr ne ↦ elim (cases_lt (length a) (length b)) [
        | inl l ↦ absurd (not-longer script a b p.played p.complete q.played l)
        | inr m ↦ absurd (not-longer script b a q.played q.complete p.played (omega (arith, ne, m)))
      ]
    ]

-- ---- sends go first

first-picked : (test : StepName → Bool) (first : StepName) (rest : List StepName) (k : ℕ) → test first ≡ true → k ≡ 0 → slice_get (filter test (first ∷ rest)) (k % length (filter test (first ∷ rest))) ≡ Some first
first-picked test first rest k h e = rw (h, e, zero-mod (length (first ∷ filter test rest))) refl

pub send_first : (script : Script) (h : List Move) → pick_at script (length h) ≡ 0 → is_ready script h Send ≡ true → chosen script h ≡ Some Send
send_first script h zero' ready = first-picked (is_ready script h) Send _ (pick_at script (length h)) ready zero'

no-pick : (script : Script) (j : ℕ) → script.picks ≡ [] → pick_at script j ≡ 0
no-pick script j none = ap (λ ps. unwrap_or (slice_get ps j) 0) none

-- the move that is made where a send is due has its entry
sent-move : (script : Script) (h : List Move) (m : Move) → script.picks ≡ [] → move_at script h (chosen script h) ≡ Some m
    → (send : Entry) → send_due script (trace_of h) ≡ Some send → m.entry ≡ Some send
sent-move script h m none made send due =
    let ready : is_ready script h Send ≡ true = ap (λ e. is_some (adding Send e)) due in
    let first : chosen script h ≡ Some Send = send_first script h (no-pick script (length h) none) ready in
    let is : adding Send (send_due script (trace_of h)) ≡ Some m = sym (ap (move_at script h) first) ∙ made in
    let same : Some (record { step = Send; entry = Some send }) ≡ Some m = sym (ap (adding Send) due) ∙ is in
    cc

one-entry : (script : Script) (past : List Entry) (entry : Option Entry) → ((send : Entry) → send_due script past ≡ Some send → entry ≡ Some send) → SendsFirst script past → SendsFirst script (with_entry entry past)
one-entry script past None only rest = rest
one-entry script past (Some e) only rest = (λ send due. (let is = only send due in cc), rest)

played-sends : (script : Script) (h : List Move) → script.picks ≡ [] → IsPlayed script h → SendsFirst script (trace_of h)
played-sends script [] none played = tt
played-sends script (m ∷ h) none played = one-entry script (trace_of h) m.entry (sent-move script h m none played.1) (played-sends script h none played.2)

pub run_sends_first : (script : Script) (h : List Move) → script.picks ≡ [] → IsPlayedRun script h → SendsFirst script (trace_of h)
run_sends_first script h none run = played-sends script h none run.played
