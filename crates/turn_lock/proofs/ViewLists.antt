-- What a change of one view does to the turns, the jobs and the numbers of all.
use Rattle.std.proofs.Common.{◌≡◌, ℕ, zero, suc, ◌+◌, ◌<◌, ◌≤◌, ◌==◌, ◌||◌, ◌&&◌, not, List, [], ◌∷◌, ◌++◌, length, set, refl, ap, sym, ◌∙◌, subst, arith, true, false, cond, append_assoc, IsPermutation}
use Rattle.std.proofs.lemmas.List.Sums.{sum_by-cons}
use Rattle.std.proofs.lemmas.List.Sorted.{IsPermutation-refl, IsPermutation-trans, IsPermutation-append_right, IsPermutation-append_left, IsPermutation-append_comm}
use Rattle.std.proofs.Math.Dec.{eqb-suc-suc, eqb-suc-zero}
use mathlib.Core.Option.{some, some-injective, some-ne-none}
use lib.ListN.{get_elem?}
use Rattle.turn_lock.specs.declared.view.View.{View}
use Rattle.turn_lock.specs.Views.{turns, jobs_of, jobs_beside, is_live, is_live_at, spent}

module _ {F E J : Type 0} where
  abbrev pub turn_of : View F E J → ℕ
  turn_of v = cond v.holds 1 0

  pub at_within : (vs : List (View F E J)) (i : ℕ) (v : View F E J) → get_elem? vs i ≡ some v → i < length vs
  at_within [] i v e = absurd (some-ne-none v (sym e))
  at_within (x ∷ xs) zero v e = omega arith
  at_within (x ∷ xs) (suc i) v e = let h = at_within xs i v e in omega arith

  pub turns_cons : (x : View F E J) (xs : List (View F E J)) → turns (x ∷ xs) ≡ turn_of x + turns xs
  turns_cons x xs = sum_by-cons turn_of x xs

  pub turns_set : (vs : List (View F E J)) (i : ℕ) (v w : View F E J) → get_elem? vs i ≡ some v → turns (set vs i w) + turn_of v ≡ turns vs + turn_of w
  turns_set [] i v w e = absurd (some-ne-none v (sym e))
  turns_set (x ∷ xs) zero v w e = let same = ap turn_of (some-injective x v e) in omega (arith, turns_cons x xs, turns_cons w xs)
  turns_set (x ∷ xs) (suc i) v w e = let h = turns_set xs i v w e in omega (arith, turns_cons x xs, turns_cons x (set xs i w))

  pub turns_snoc : (vs : List (View F E J)) (w : View F E J) → turns (vs ++ w ∷ []) ≡ turns vs + turn_of w
  turns_snoc [] w = turns_cons w [] ∙ omega arith
  turns_snoc (x ∷ xs) w = let h = turns_snoc xs w in omega (arith, turns_cons x xs, turns_cons x (xs ++ w ∷ []))

  pub a_turn : (vs : List (View F E J)) (i : ℕ) (v : View F E J) → get_elem? vs i ≡ some v → v.holds ≡ true → 1 ≤ turns vs
  a_turn vs i v e held =
      let h = turns_set vs i v (record v { holds = false }) e in
      let one : turn_of v ≡ 1 = ap (λ b. cond b 1 0) held in omega arith

  pub no_turn : (vs : List (View F E J)) (i : ℕ) (v : View F E J) → get_elem? vs i ≡ some v → turns vs ≡ 0 → v.holds ≡ true → ⊥
  no_turn vs i v e empty held = let h = a_turn vs i v e held in omega arith

  pub jobs_set : (vs : List (View F E J)) (i : ℕ) (v w : View F E J) → get_elem? vs i ≡ some v → w.jobs ≡ v.jobs → jobs_of (set vs i w) ≡ jobs_of vs
  jobs_set [] i v w e j = refl
  jobs_set (x ∷ xs) zero v w e j = ap (λ (js : List J). js ++ jobs_of xs) (j ∙ sym (ap (λ (u : View F E J). u.jobs) (some-injective x v e)))
  jobs_set (x ∷ xs) (suc i) v w e j = ap (λ (js : List J). x.jobs ++ js) (jobs_set xs i v w e j)

  pub beside_set : (k : ℕ) (vs : List (View F E J)) (i : ℕ) (v w : View F E J) → get_elem? vs i ≡ some v → w.jobs ≡ v.jobs → jobs_beside k (set vs i w) ≡ jobs_beside k vs
  beside_set k [] i v w e j = refl
  beside_set zero (x ∷ xs) zero v w e j = refl
  beside_set zero (x ∷ xs) (suc i) v w e j = jobs_set xs i v w e j
  beside_set (suc k) (x ∷ xs) zero v w e j = ap (λ (js : List J). js ++ jobs_beside k xs) (j ∙ sym (ap (λ (u : View F E J). u.jobs) (some-injective x v e)))
  beside_set (suc k) (x ∷ xs) (suc i) v w e j = ap (λ (js : List J). x.jobs ++ js) (beside_set k xs i v w e j)

  pub beside_set_here : (vs : List (View F E J)) (i : ℕ) (w : View F E J) → jobs_beside i (set vs i w) ≡ jobs_beside i vs
  beside_set_here [] i w = refl
  beside_set_here (x ∷ xs) zero w = refl
  beside_set_here (x ∷ xs) (suc i) w = ap (λ (js : List J). x.jobs ++ js) (beside_set_here xs i w)

  pub jobs_snoc : (vs : List (View F E J)) (w : View F E J) → w.jobs ≡ [] → jobs_of (vs ++ w ∷ []) ≡ jobs_of vs
  jobs_snoc [] w j = ap (λ (js : List J). js ++ []) j
  jobs_snoc (x ∷ xs) w j = ap (λ (js : List J). x.jobs ++ js) (jobs_snoc xs w j)

  pub beside_snoc : (i : ℕ) (vs : List (View F E J)) (w : View F E J) → w.jobs ≡ [] → i < length vs → jobs_beside i (vs ++ w ∷ []) ≡ jobs_beside i vs
  beside_snoc i [] w j le = absurd (omega arith)
  beside_snoc zero (x ∷ xs) w j le = jobs_snoc xs w j
  beside_snoc (suc i) (x ∷ xs) w j le = ap (λ (js : List J). x.jobs ++ js) (beside_snoc i xs w j (omega arith))

  -- the jobs of one seat and those of the others are all
  pub jobs_parts : (vs : List (View F E J)) (i : ℕ) (v : View F E J) → get_elem? vs i ≡ some v → IsPermutation (jobs_of vs) (v.jobs ++ jobs_beside i vs)
  jobs_parts [] i v e = absurd (some-ne-none v (sym e))
  jobs_parts (x ∷ xs) zero v e = subst (λ (u : View F E J). IsPermutation (x.jobs ++ jobs_of xs) (u.jobs ++ jobs_of xs)) (some-injective x v e) (IsPermutation-refl (x.jobs ++ jobs_of xs))
  jobs_parts (x ∷ xs) (suc i) v e =
      let rest : List J = jobs_beside i xs in
      let first = IsPermutation-append_right x.jobs (jobs_of xs) (v.jobs ++ rest) (jobs_parts xs i v e) in
      let turned = IsPermutation-append_left rest (x.jobs ++ v.jobs) (v.jobs ++ x.jobs) (IsPermutation-append_comm x.jobs v.jobs) in
      let turned' : IsPermutation (x.jobs ++ (v.jobs ++ rest)) (v.jobs ++ (x.jobs ++ rest)) = rw (← append_assoc x.jobs v.jobs rest, ← append_assoc v.jobs x.jobs rest) turned in
      IsPermutation-trans (x.jobs ++ jobs_of xs) (x.jobs ++ (v.jobs ++ rest)) (v.jobs ++ (x.jobs ++ rest)) first turned'

  pub live_at : (vs : List (View F E J)) (i : ℕ) (v : View F E J) → get_elem? vs i ≡ some v → is_live_at i vs ≡ is_live v
  live_at [] i v e = absurd (some-ne-none v (sym e))
  live_at (x ∷ xs) zero v e = ap is_live (some-injective x v e)
  live_at (x ∷ xs) (suc i) v e = live_at xs i v e

  pub live_set : (k : ℕ) (vs : List (View F E J)) (i : ℕ) (v w : View F E J) → get_elem? vs i ≡ some v → is_live w ≡ is_live v → is_live_at k (set vs i w) ≡ is_live_at k vs
  live_set k [] i v w e j = refl
  live_set zero (x ∷ xs) zero v w e j = j ∙ sym (ap is_live (some-injective x v e))
  live_set zero (x ∷ xs) (suc i) v w e j = refl
  live_set (suc k) (x ∷ xs) zero v w e j = refl
  live_set (suc k) (x ∷ xs) (suc i) v w e j = live_set k xs i v w e j

  pub live_spent : (k : ℕ) (vs : List (View F E J)) (i : ℕ) → is_live_at k (set vs i spent) ≡ (is_live_at k vs && not (k == i))
  live_spent k [] i = refl
  live_spent zero (x ∷ xs) zero = grind arith
  live_spent zero (x ∷ xs) (suc i) = grind arith
  live_spent (suc k) (x ∷ xs) zero = grind arith
  live_spent (suc k) (x ∷ xs) (suc i) = live_spent k xs i ∙ ap (λ b. is_live_at k xs && not b) (sym (eqb-suc-suc k i))

  pub live_snoc : (k : ℕ) (vs : List (View F E J)) (w : View F E J) → is_live w ≡ true → is_live_at k (vs ++ w ∷ []) ≡ (is_live_at k vs || k == length vs)
  live_snoc zero [] w live = live
  live_snoc (suc k) [] w live = sym (eqb-suc-zero k)
  live_snoc zero (x ∷ xs) w live = grind arith
  live_snoc (suc k) (x ∷ xs) w live = live_snoc k xs w live ∙ ap (λ b. is_live_at k xs || b) (sym (eqb-suc-suc k (length xs)))
