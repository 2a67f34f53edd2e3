-- The candidate that is chosen is ready, and one is chosen where there is some.
use Rattle.std.proofs.Common.{◌≡◌, ℕ, zero, suc, ◌%◌, ◌<◌, Bool, true, List, [], ◌∷◌, Some, None, arith, inl, inr, length, filter, slice_get}
use Rattle.std.proofs.lemmas.Bool.{cases_Bool}
use Rattle.cam_types.specs.declared.script.Script.{Script}
use Rattle.run_model.specs.declared.step.Move.{Move}
use Rattle.run_model.specs.declared.step.StepName.{StepName}
use Rattle.run_model.specs.History.{trace_of}
use Rattle.run_model.specs.Played.{candidates, steps}
use Rattle.run_model.specs.Ready.{is_ready}

got : (xs : List StepName) (i : ℕ) → i < length xs → slice_get xs i ≡ None → ⊥
got [] i l h = absurd (omega arith)
got (x ∷ xs) zero l h = absurd (cc)
got (x ∷ xs) (suc i) l h = got xs i (omega arith) h

-- where there is some, one is picked
pub one_picked : (xs : List StepName) (pick : ℕ) → 0 < length xs → slice_get xs (pick % length xs) ≡ None → ⊥
one_picked xs pick some none = got xs (pick % length xs) (omega (arith, some)) none

head-passes : (p : StepName → Bool) (x : StepName) (rest : List StepName) (i : ℕ) (step : StepName) → p x ≡ true → ((k : ℕ) → slice_get rest k ≡ Some step → p step ≡ true) → slice_get (x ∷ rest) i ≡ Some step → p step ≡ true
head-passes p x rest zero step y more h = let e : x ≡ step = cc in rw e at y
head-passes p x rest (suc i) step y more h = more i h

passes : (p : StepName → Bool) (xs : List StepName) (i : ℕ) (step : StepName) → slice_get (filter p xs) i ≡ Some step → p step ≡ true
passes p [] i step h = absurd (cc)
passes p (x ∷ xs) i step h = elim (cases_Bool (p x)) [
  | inl y ↦ (let h' = rw y at h in head-passes p x (filter p xs) i step y (λ k. passes p xs k step) h')
  | inr n ↦ (let h' = rw n at h in passes p xs i step h')
]

-- a candidate is ready
pub candidate_ready : (script : Script) (h : List Move) (i : ℕ) (step : StepName) → slice_get (candidates script h) i ≡ Some step → is_ready script h step ≡ true
candidate_ready script h i step picked = passes (is_ready script h) (steps (trace_of h)) i step picked
