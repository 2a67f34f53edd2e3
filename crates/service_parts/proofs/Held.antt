-- The list of jobs with one more, and without it.
use Rattle.std.proofs.Common.{◌≡◌, ℕ, ◌==◌, true, false, not, List, [], ◌∷◌, ◌++◌, Some, None, refl, sym, ap, ◌∙◌, inl, inr}
use Rattle.std.proofs.lemmas.Bool.{and_from, and_parts, cases_Bool, eq-eqb, eqb-true, not-true}
use Rattle.cam_types.specs.declared.job.JobView.{JobView}
use Rattle.basic_lemmas.proofs.Tests.{eq-turned}
use Rattle.fill_jobs.specs.Held.{frames_differ, held_at, is_held}
use Rattle.basic_lemmas.proofs.Lists.{found-passes}

-- ---- what is found

-- the job that is found is of the frame
pub held-frame : (n : ℕ) (jobs : List JobView) (job : JobView) → held_at n jobs ≡ Some job → job.frame.0 ≡ n
held-frame n jobs job at = eqb-true job.frame.0 n (found-passes {X = JobView} (λ j. j.frame.0 == n) jobs job at)

pub held-none : (n : ℕ) (jobs : List JobView) → is_held n jobs ≡ false → held_at n jobs ≡ None
held-none n [] none = refl
held-none n (job ∷ jobs) none = elim (cases_Bool (job.frame.0 == n)) [
  | inl here ↦ (let none' = rw here at none in absurd (cc))
  | inr other ↦ (let none' = rw other at none in rw other (held-none n jobs none'))
]

pub none-held : (n : ℕ) (jobs : List JobView) → held_at n jobs ≡ None → is_held n jobs ≡ false
none-held n [] none = refl
none-held n (job ∷ jobs) none = elim (cases_Bool (job.frame.0 == n)) [
  | inl here ↦ (let none' = rw here at none in absurd (cc))
  | inr other ↦ (let none' = rw other at none in rw other (none-held n jobs none'))
]

-- the first job
pub first-held : (job : JobView) (jobs : List JobView) → held_at job.frame.0 (job ∷ jobs) ≡ Some job
first-held job jobs = rw (eq-eqb job.frame.0 job.frame.0 refl) refl

-- ---- one more job

-- it changes what is found of its own frame alone
pub held-other : (n : ℕ) (job : JobView) (before after : List JobView) → (job.frame.0 == n) ≡ false → held_at n (before ++ job ∷ after) ≡ held_at n (before ++ after)
held-other n job [] after other = rw other refl
held-other n job (x ∷ before) after other =
    elim (cases_Bool (x.frame.0 == n)) [ inl here ↦ rw here refl | inr no' ↦ rw no' (held-other n job before after other) ]

pub held-own : (n : ℕ) (job : JobView) (before after : List JobView) → (job.frame.0 == n) ≡ true → held_at n (before ++ after) ≡ None → held_at n (before ++ job ∷ after) ≡ Some job
held-own n job [] after own none = rw own refl
held-own n job (x ∷ before) after own none = elim (cases_Bool (x.frame.0 == n)) [
  | inl here ↦ (let none' = rw here at none in absurd (cc))
  | inr other ↦ (let none' = rw other at none in rw other (held-own n job before after own none'))
]

-- the frames differ with a job of a frame that had none, and without it
pub differ-with : (job : JobView) (before after : List JobView) → frames_differ (before ++ after) ≡ true → held_at job.frame.0 (before ++ after) ≡ None → frames_differ (before ++ job ∷ after) ≡ true
differ-with job [] after differ none =
    and_from (not (is_held job.frame.0 after)) (frames_differ after) (ap not (none-held job.frame.0 after none)) differ
differ-with job (x ∷ before) after differ none =
    let parts = and_parts (not (is_held x.frame.0 (before ++ after))) (frames_differ (before ++ after)) differ in
    elim (cases_Bool (x.frame.0 == job.frame.0)) [
      | inl here ↦ (let none' = rw here at none in absurd (cc))
      | inr other ↦ (
          let none' = rw other at none in
          let kept = held-other x.frame.0 job before after (eq-turned job.frame.0 x.frame.0 other) in
          let free = held-none x.frame.0 (before ++ after) (not-true (is_held x.frame.0 (before ++ after)) parts.0) in
          and_from (not (is_held x.frame.0 (before ++ job ∷ after))) (frames_differ (before ++ job ∷ after))
          (ap not (none-held x.frame.0 (before ++ job ∷ after) (kept ∙ free))) (differ-with job before after parts.1 none')
          )
    ]

pub differ-without : (job : JobView) (before after : List JobView) → frames_differ (before ++ job ∷ after) ≡ true → (frames_differ (before ++ after) ≡ true) × (held_at job.frame.0 (before ++ after) ≡ None)
differ-without job [] after differ =
    let parts = and_parts (not (is_held job.frame.0 after)) (frames_differ after) differ in
    (parts.1, held-none job.frame.0 after (not-true (is_held job.frame.0 after) parts.0))
differ-without job (x ∷ before) after differ =
    let parts = and_parts (not (is_held x.frame.0 (before ++ job ∷ after))) (frames_differ (before ++ job ∷ after)) differ in
    let rest = differ-without job before after parts.1 in
    let free = held-none x.frame.0 (before ++ job ∷ after) (not-true (is_held x.frame.0 (before ++ job ∷ after)) parts.0) in
    elim (cases_Bool (x.frame.0 == job.frame.0)) [
      | inl here ↦ (
          let at : x.frame.0 ≡ job.frame.0 = eqb-true x.frame.0 job.frame.0 here in
          let none = ap (λ (n : ℕ). held_at n (before ++ after)) at ∙ rest.1 in
          let own = held-own x.frame.0 job before after (eq-eqb job.frame.0 x.frame.0 (sym at)) none in
          absurd (cc)
          )
      | inr other ↦ (
          let kept = held-other x.frame.0 job before after (eq-turned job.frame.0 x.frame.0 other) in
          let none = none-held x.frame.0 (before ++ after) (sym kept ∙ free) in
          (and_from (not (is_held x.frame.0 (before ++ after))) (frames_differ (before ++ after)) (ap not none) rest.0, rw other rest.1)
          )
    ]
