-- The first ready step of a kind is of the kind, and ready.
use Rattle.std.proofs.Common.{◌≡◌, ℕ, ◌==◌, ◌||◌, Bool, true, false, List, [], ◌∷◌, Option, Some, None, refl, sym, ap, ◌∙◌, inl, inr, filter, find, is_some}
use Rattle.std.proofs.lemmas.Bool.{cases_Bool, eqb-true, false≢true}
use Rattle.cam_types.specs.declared.number.FrameNo.{FrameNo}
use Rattle.cam_types.specs.declared.number.StreamIx.{StreamIx}
use Rattle.cam_types.specs.declared.script.Script.{Script}
use Rattle.run_model.specs.declared.step.Kind.{Kind}
use Rattle.run_model.specs.declared.step.Kind.TheVariants as kind
use Rattle.run_model.specs.declared.step.Move.{Move}
use Rattle.run_model.specs.declared.step.StepName.{StepName}
use Rattle.run_model.specs.declared.step.StepName.TheVariants.{Shutter, TakeFill}
use Rattle.run_model.specs.History.{trace_of}
use Rattle.run_model.specs.Played.{candidates, steps}
use Rattle.run_model.specs.Ready.{is_ready, move_of}
use Rattle.service_parts.specs.Outs.{moves_a_job, takes_a_job}
use Rattle.service_core.specs.Kinds.{first_of, is_of, kind_of, place_of}
use Rattle.shared_camera.specs.Choices.{first_of_kinds, or_step}
use Rattle.shared_camera.specs.Moves.{are_alone, is_of_jobs}
use Rattle.basic_lemmas.proofs.Lists.{found-passes}

found-in : (q p : StepName → Bool) (xs : List StepName) (x : StepName) → find p (filter q xs) ≡ Some x → q x ≡ true
found-in q p [] x h = absurd (cc)
found-in q p (y ∷ ys) x h = elim (cases_Bool (q y)) [
  | inl passes ↦ (
      let h' = rw passes at h in
      elim (cases_Bool (p y)) [
        | inl here ↦ (let h'' = rw here at h' in let e : y ≡ x = cc in rw e at passes)
        | inr on ↦ found-in q p ys x (rw on at h')
      ]
      )
  | inr fails ↦ found-in q p ys x (rw fails at h)
]

pub first-ready : (script : Script) (h : List Move) (k : Kind) (step : StepName) → first_of k (candidates script h) ≡ Some step → is_ready script h step ≡ true
first-ready script h k step first = found-in (is_ready script h) (is_of k) (steps (trace_of h)) step first

-- so it has a move
pub first-moves : (script : Script) (h : List Move) (k : Kind) (step : StepName) → first_of k (candidates script h) ≡ Some step → move_of script h step ≡ None → ⊥
first-moves script h k step first none = false≢true (sym (ap is_some none) ∙ first-ready script h k step first)

pub first-of-kind : (script : Script) (h : List Move) (k : Kind) (step : StepName) → first_of k (candidates script h) ≡ Some step → is_of k step ≡ true
first-of-kind script h k step first = found-passes {X = StepName} (is_of k) (candidates script h) step first

-- the places of the kinds whose steps take a job out, or give one back
abbrev of-jobs-at : ℕ → Bool
of-jobs-at n = (n == 7) || ((n == 8) || ((n == 10) || (n == 11)))

kind-at : (k : Kind) → is_of_jobs k ≡ of-jobs-at (place_of k)
kind-at kind.Shutter = refl
kind-at _ = refl

step-at : (step : StepName) → moves_a_job step ≡ of-jobs-at (place_of (kind_of step))
step-at Shutter = refl
step-at _ = refl

-- a step of a kind that is of no job is of no job
pub step-alone : (k : Kind) (step : StepName) → is_of k step ≡ true → is_of_jobs k ≡ false → moves_a_job step ≡ false
step-alone k step is alone =
    step-at step ∙ (ap of-jobs-at (eqb-true (place_of (kind_of step)) (place_of k) is) ∙ (sym (kind-at k) ∙ alone))

pub is-shutter : (step : StepName) → is_of kind.Shutter step ≡ true → step ≡ Shutter
is-shutter Shutter is = refl
is-shutter _ is = absurd (false≢true is)

pub takes-which : (step : StepName) → is_of kind.TakeFill step ≡ true → (n : FrameNo) × (s : StreamIx) × (step ≡ TakeFill n s)
takes-which (TakeFill n s) is = (n, s, refl)
takes-which _ is = absurd (false≢true is)

pub is-taking : (step : StepName) → is_of kind.TakeFill step ≡ true → takes_a_job step ≡ true
is-taking (TakeFill n s) is = refl
is-taking _ is = absurd (false≢true is)

-- ---- the first of several kinds

pub chosen-ready : (script : Script) (h : List Move) (kinds : List Kind) (step : StepName) → first_of_kinds kinds (candidates script h) ≡ Some step → is_ready script h step ≡ true
chosen-ready script h [] step e = absurd (cc)
chosen-ready script h (k ∷ kinds) step e = by (chosen-ready script h kinds step) (first_of k (candidates script h)) refl e
  where
    by : (first_of_kinds kinds (candidates script h) ≡ Some step → is_ready script h step ≡ true)
        → (o : Option StepName) → first_of k (candidates script h) ≡ o → or_step o (first_of_kinds kinds (candidates script h)) ≡ Some step → is_ready script h step ≡ true
    by others (Some s) is chosen = first-ready script h k step (is ∙ chosen)
    by others None is chosen = others chosen

-- so it has a move
pub chosen-moves : (script : Script) (h : List Move) (kinds : List Kind) (step : StepName) → first_of_kinds kinds (candidates script h) ≡ Some step → move_of script h step ≡ None → ⊥
chosen-moves script h kinds step chosen none = false≢true (sym (ap is_some none) ∙ chosen-ready script h kinds step chosen)

-- of kinds that are of no job it is of no job
pub chosen-alone : (kinds : List Kind) (script : Script) (h : List Move) (step : StepName) → are_alone kinds ≡ true → first_of_kinds kinds (candidates script h) ≡ Some step → moves_a_job step ≡ false
chosen-alone [] script h step alone e = absurd (cc)
chosen-alone (k ∷ kinds) script h step alone e = elim (cases_Bool (is_of_jobs k)) [
  | inl does ↦ absurd (false≢true (rw does at alone))
  | inr idle ↦ by (chosen-alone kinds script h step (rw idle at alone)) idle (first_of k (candidates script h)) refl e
]
  where
    by : (first_of_kinds kinds (candidates script h) ≡ Some step → moves_a_job step ≡ false)
        → is_of_jobs k ≡ false → (o : Option StepName) → first_of k (candidates script h) ≡ o → or_step o (first_of_kinds kinds (candidates script h)) ≡ Some step → moves_a_job step ≡ false
    by others idle (Some s) is chosen = step-alone k step (first-of-kind script h k step (is ∙ chosen)) idle
    by others idle None is chosen = others chosen
