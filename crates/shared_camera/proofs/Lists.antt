-- Lists of jobs of which no two are of one frame.
use Rattle.std.proofs.Common.{◌≡◌, ℕ, ◌==◌, Bool, true, false, not, List, [], ◌∷◌, ◌++◌, Option, Some, None, refl, sym, ap, ◌∙◌, subst, inl, inr, ⊎_elim, arith, filter, Contains, IsPermutation}
use Rattle.std.proofs.lemmas.Bool.{and_parts, cases_Bool, eq-eqb, eqb-true, false≢true, not-true}
use Rattle.std.proofs.lemmas.List.Sorted.{IsPermutation-middle, IsPermutation-sym}
use Rattle.cam_types.specs.declared.job.JobView.{JobView}
use Rattle.cam_types.specs.declared.number.FrameNo.{FrameNo}
use Rattle.fill_jobs.specs.Held.{IsWith, frames_differ, held_at, is_held}
use Rattle.turn_lock.proofs.JobLists.{contains_rest}
use Rattle.shared_camera.specs.JobsOut.{without_frame}

-- ---- jobs that stand in the list

pub contained-held : (jobs : List JobView) (job : JobView) → Contains jobs job → is_held job.frame.0 jobs ≡ true
contained-held [] job at = absurd (omega (arith, at.1))
contained-held (x ∷ xs) job at = elim (cases_Bool (x.frame.0 == job.frame.0)) [
  | inl here ↦ rw here refl
  | inr other ↦ ⊎_elim
      (λ (e : x ≡ job). absurd (false≢true (sym other ∙ eq-eqb x.frame.0 job.frame.0 (ap (λ (j : JobView). j.frame.0) e))))
      (λ (c : Contains xs job). rw other (contained-held xs job c))
      (contains_rest x xs job at)
]

-- no job of a frame that has none
pub not-contained : (jobs : List JobView) (job : JobView) → held_at job.frame.0 jobs ≡ None → Contains jobs job → ⊥
not-contained [] job none at = omega (arith, at.1)
not-contained (x ∷ xs) job none at = elim (cases_Bool (x.frame.0 == job.frame.0)) [
  | inl here ↦ (let none' = rw here at none in absurd (cc))
  | inr other ↦ ⊎_elim
      (λ (e : x ≡ job). false≢true (sym other ∙ eq-eqb x.frame.0 job.frame.0 (ap (λ (j : JobView). j.frame.0) e)))
      (λ (c : Contains xs job). not-contained xs job (rw other at none) c)
      (contains_rest x xs job at)
]

-- a job in the list is found by its frame
pub contained-found : (jobs : List JobView) (job : JobView) → frames_differ jobs ≡ true → Contains jobs job → held_at job.frame.0 jobs ≡ Some job
contained-found [] job differ at = absurd (omega (arith, at.1))
contained-found (x ∷ xs) job differ at =
    let parts = and_parts (not (is_held x.frame.0 xs)) (frames_differ xs) differ in
    elim (cases_Bool (x.frame.0 == job.frame.0)) [
      | inl here ↦ ⊎_elim
          (λ (e : x ≡ job). rw here (ap Some e))
          (λ (c : Contains xs job).
          let same : x.frame.0 ≡ job.frame.0 = eqb-true x.frame.0 job.frame.0 here in
          let held : is_held x.frame.0 xs ≡ true = ap (λ (n : ℕ). is_held n xs) same ∙ contained-held xs job c in
          absurd (false≢true (sym (not-true (is_held x.frame.0 xs) parts.0) ∙ held)))
          (contains_rest x xs job at)
      | inr other ↦ ⊎_elim
          (λ (e : x ≡ job). absurd (false≢true (sym other ∙ eq-eqb x.frame.0 job.frame.0 (ap (λ (j : JobView). j.frame.0) e))))
          (λ (c : Contains xs job). rw other (contained-found xs job parts.1 c))
          (contains_rest x xs job at)
    ]

-- ---- the list without a frame's job

none-without : (n : FrameNo) (jobs : List JobView) → is_held n.0 jobs ≡ false → without_frame n jobs ≡ jobs
none-without n [] none = refl
none-without n (x ∷ xs) none = elim (cases_Bool (x.frame.0 == n.0)) [
  | inl here ↦ (let none' = rw here at none in absurd (cc))
  | inr other ↦ rw other (ap (λ (js : List JobView). x ∷ js) (none-without n xs (rw other at none)))
]

-- it lacks just that job
pub one-less : (n : FrameNo) (jobs : List JobView) (job : JobView) → frames_differ jobs ≡ true → held_at n.0 jobs ≡ Some job → IsWith job (without_frame n jobs) jobs
one-less n [] job differ at = absurd (cc)
one-less n (x ∷ xs) job differ at =
    let parts = and_parts (not (is_held x.frame.0 xs)) (frames_differ xs) differ in
    elim (cases_Bool (x.frame.0 == n.0)) [
      | inl here ↦ (
          let at' = rw here at at in
          let same : x ≡ job = cc in
          let none : is_held n.0 xs ≡ false = ap (λ (k : ℕ). is_held k xs) (sym (eqb-true x.frame.0 n.0 here)) ∙ not-true (is_held x.frame.0 xs) parts.0 in
          record { before = []; after = xs; old_is = rw here (none-without n xs none); new_is = ap (λ (j : JobView). j ∷ xs) same }
          )
      | inr other ↦ (
          let less = one-less n xs job parts.1 (rw other at at) in
          record {
            before = x ∷ less.before;
            after = less.after;
            old_is = rw other (ap (λ (js : List JobView). x ∷ js) less.old_is);
            new_is = ap (λ (js : List JobView). x ∷ js) less.new_is;
          }
          )
    ]

pub with-permuted : (job : JobView) (old new : List JobView) → IsWith job old new → IsPermutation new (job ∷ old)
with-permuted job old new w =
    subst (λ (js : List JobView). IsPermutation js (job ∷ old)) (sym w.new_is)
    (subst (λ (js : List JobView). IsPermutation (w.before ++ job ∷ w.after) (job ∷ js)) (sym w.old_is) (IsPermutation-middle w.before job w.after))
