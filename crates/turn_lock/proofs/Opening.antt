-- The rule at the beginning, and what it says at the end.
use Rattle.std.proofs.Common.{◌≡◌, ℕ, zero, suc, ◌==◌, ◌||◌, List, [], ◌∷◌, ◌++◌, length, refl, ap, sym, ◌∙◌, subst, arith, true, false, inl, ◌⊎◌, Option, Some, IsPermutation}
use Rattle.std.proofs.lemmas.List.{append-nil}
use Rattle.std.proofs.lemmas.List.Sorted.{IsPermutation-refl, IsPermutation-sym, IsPermutation-trans}
use Rattle.std.proofs.Math.Dec.{eqb-suc-zero}
use mathlib.Core.Logic.{dite}
use mathlib.Core.Option.{some, some-injective, some-ne-none}
use mathlib.Core.Option as maybe
use mathlib.Core.List.{IsPrefix}
use native.Mathlib.Decide.{ℕ_discrete}
use lib.ListN.{get_elem?}
use Rattle.atomic_table.specs.Table.{opening, Final, Seen}
use Rattle.turn_lock.specs.declared.view.View.{View}
use Rattle.turn_lock.specs.Views.{turns, jobs_of, jobs_beside, is_live, is_live_at, has, spent, root_view}
use Rattle.turn_lock.specs.Rule.{IsKept, NoneTwice}
use Rattle.turn_lock.proofs.ViewLists.{jobs_parts}
use Rattle.turn_lock.proofs.JobLists.{none_twice_permutation}
use Rattle.turn_lock.proofs.Beginnings.{begins_itself}
use Rattle.turn_lock.proofs.Keeping.{each_snoc, one_value, none_holds, alone}

module _ {F E J : Type 0} where
  only : (P : ℕ → View F E J → Type 0) (v : View F E J) → P 0 v → (j : ℕ) (u : View F E J) → get_elem? (v ∷ []) j ≡ some u → P j u
  only P v here = each_snoc P [] v here (λ j u e. absurd (some-ne-none u (sym e)))

  root_first : (v : View F E J) (k : ℕ) → is_live v ≡ true → v.others ≡ [] → is_live_at k (v ∷ []) ≡ (k == 0 || has v.others k)
  root_first v zero live empty = live
  root_first v (suc k) live empty = rw (empty, eqb-suc-zero k) refl

module _ {S F E J : Type 0} (fixed : S → F) (entries : S → List E) (jobs : S → List J) where
  pub begins : (value : S) (count : ℕ) → jobs value ≡ [] → length (entries value) ≡ count → IsKept fixed entries jobs (fixed value) (opening (0 ∷ count ∷ 0 ∷ []) (Some value ∷ []) (root_view {J = J} (fixed value) (entries value)))
  begins value count idle counted = let v : View F E J = root_view (fixed value) (entries value) in record {
    history = entries value;
    waiting = 0;
    words = ap (λ (n : ℕ). 0 ∷ n ∷ 0 ∷ []) (sym counted);
    one = omega arith;
    seen = only (λ j u. IsPrefix u.seen (entries value) × IsPrefix u.told u.seen) v (begins_itself (entries value), (entries value, refl));
    longest = (0, v, refl, refl, refl);
    holder = only (λ j u. u.holds ≡ true → (u.seen ≡ entries value) × (u.rest ≡ jobs_beside j (v ∷ []))) v (λ held. absurd (cc held));
    home = λ _. (value, refl, refl, refl, subst (λ (js : List J). IsPermutation js []) (sym idle) (IsPermutation-refl []));
    once = λ a b d lt l e. omega arith;
    out = λ e. absurd (omega arith);
    numbers = only (λ j u. is_live u ≡ true → u.number ≡ j) v (λ _. refl);
    root = (v, refl, refl, tt, λ k. root_first v k refl refl);
    same = only (λ j u. (u.fixed ≡ Some (fixed value)) ⊎ (u ≡ spent)) v (inl refl);
  }

  -- what the slot has at the end, where the root is alone and holds no turn
  pub ends : (start : F) (id : ℕ) (v : View F E J) (words : List ℕ) (slots : List (Option S)) (slot : Option S) → v.fixed ≡ Some start → v.number ≡ 0 → v.others ≡ [] → v.holds ≡ false
      → Final (Seen (IsKept fixed entries jobs start) id v) words slots → get_elem? slots 0 ≡ some slot
      → (value : S) × (slot ≡ Some value) × (fixed value ≡ start) × (entries value ≡ v.seen) × IsPermutation (jobs value) v.jobs × NoneTwice (jobs value)
  ends start id v words slots slot is number empty free (s, (r, at), ws, wide, last) there =
      let a = alone fixed entries jobs start s r id v at is number empty in
      let idle : turns s.views ≡ 0 = none_holds s.views (λ j u e. dite (ℕ_discrete j id)
      (λ f. ap (λ (x : View F E J). x.holds) (one_value s.views id u v (subst (λ (k : ℕ). get_elem? s.views k ≡ some u) f e) at) ∙ free)
      (λ ne. ap (λ (x : View F E J). x.holds) (a.2 j u ne e))) in
      let h = r.home idle in
      let parts = jobs_parts s.views id v at in
      let own : IsPermutation (jobs_of s.views) v.jobs = subst (λ (js : List J). IsPermutation (jobs_of s.views) js) (ap (λ (js : List J). v.jobs ++ js) a.1 ∙ append-nil v.jobs) parts in
      let kept : get_elem? slots 0 ≡ some (Some h.0) = last 0 (Some h.0) (ap (λ (hs : List (maybe.Option (Option S))). get_elem? hs 0) h.1) in (
        h.0,
        some-injective slot (Some h.0) (sym there ∙ kept),
        h.2,
        h.3 ∙ a.0,
        IsPermutation-trans (jobs h.0) (jobs_of s.views) v.jobs h.4 own,
        none_twice_permutation (jobs_of s.views) (jobs h.0) (IsPermutation-sym (jobs h.0) (jobs_of s.views) h.4) r.once,
      )

-- the slots, with the value alone
pub one_slot : {S : Type 0} (value : S) (before slots : List (Option S)) → slots ≡ before ++ Some value ∷ [] → before ≡ [] → slots ≡ Some value ∷ []
one_slot value before slots e empty = e ∙ ap (λ (l : List (Option _)). l ++ Some value ∷ []) empty
