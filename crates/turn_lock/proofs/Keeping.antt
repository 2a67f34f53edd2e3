-- What the steps share: each view of a list of which one view changed, or to which one was added, and the root's view.
use Rattle.std.proofs.Common.{◌≡◌, ◌≢◌, ℕ, zero, suc, ◌==◌, ◌||◌, List, [], ◌∷◌, ◌++◌, length, set, refl, ap, sym, ◌∙◌, subst, arith, true, false, ◌⊎◌, inl, inr, ⊎_elim, Option, Some, length-set, cond, is_some, ne_eqb}
use mathlib.Core.Logic.{dite}
use mathlib.Core.Option.{some, some-injective, some-ne-none}
use native.Mathlib.Decide.{ℕ_discrete}
use lib.ListN.{get_elem?}
use Rattle.atomic_table.specs.Table.{State}
use Rattle.atomic_table.proofs.Lists.{at_set, set_here, set_else}
use Rattle.turn_lock.specs.declared.view.View.{View}
use Rattle.turn_lock.specs.Views.{turns, jobs_of, jobs_beside, is_live, is_live_at, has, IsFalling, spent}
use Rattle.turn_lock.specs.Rule.{IsKept}
use Rattle.turn_lock.proofs.ViewLists.{turn_of, turns_cons, at_within, live_at, live_set}

module _ {A : Type 0} where
  -- what holds of each element, after one was changed
  pub each_set : (P : ℕ → A → Type 0) (xs : List A) (i : ℕ) (w : A) → P i w → ((j : ℕ) (u : A) → j ≢ i → get_elem? xs j ≡ some u → P j u)
      → (j : ℕ) (u : A) → get_elem? (set xs i w) j ≡ some u → P j u
  each_set P xs i w here others j u e =
      ⊎_elim (λ (t : (j ≡ i) × (w ≡ u)). subst (λ (x : ℕ × A). P x.0 x.1) (λ k. (sym t.0 k, t.1 k)) here)
      (λ (t : (j ≢ i) × (get_elem? xs j ≡ some u)). others j u t.0 t.1) (at_set xs i j w u e)

  at_end : (xs : List A) (w : A) (j : ℕ) (u : A) → get_elem? (xs ++ w ∷ []) j ≡ some u → (get_elem? xs j ≡ some u) ⊎ ((j ≡ length xs) × (w ≡ u))
  at_end [] w zero u e = inr (refl, some-injective w u e)
  at_end [] w (suc j) u e = absurd (some-ne-none u (sym e))
  at_end (x ∷ xs) w zero u e = inl e
  at_end (x ∷ xs) w (suc j) u e = ⊎_elim (λ (h : get_elem? xs j ≡ some u). inl h) (λ (h : (j ≡ length xs) × (w ≡ u)). inr (ap suc h.0, h.1)) (at_end xs w j u e)

  -- the same, after one was added
  pub each_snoc : (P : ℕ → A → Type 0) (xs : List A) (w : A) → P (length xs) w → ((j : ℕ) (u : A) → get_elem? xs j ≡ some u → P j u)
      → (j : ℕ) (u : A) → get_elem? (xs ++ w ∷ []) j ≡ some u → P j u
  each_snoc P xs w last others j u e =
      ⊎_elim (λ (h : get_elem? xs j ≡ some u). others j u h) (λ (t : (j ≡ length xs) × (w ≡ u)). subst (λ (x : ℕ × A). P x.0 x.1) (λ k. (sym t.0 k, t.1 k)) last) (at_end xs w j u e)

  pub one_value : (xs : List A) (i : ℕ) (a b : A) → get_elem? xs i ≡ some a → get_elem? xs i ≡ some b → a ≡ b
  one_value xs i a b e f = some-injective a b (sym e ∙ f)

module _ {F E J : Type 0} where
  -- point 6 of the rule, of the root
  abbrev pub HasRoot : List (View F E J) → Type 0
  HasRoot vs = (v : View F E J) × (get_elem? vs 0 ≡ some v) × (v.made ≡ length vs) × IsFalling v.made v.others × ((i : ℕ) → is_live_at i vs ≡ (i == 0 || has v.others i))

  pub root_set : (vs : List (View F E J)) (id : ℕ) (v w : View F E J) → get_elem? vs id ≡ some v → w.made ≡ v.made → w.others ≡ v.others → is_live w ≡ is_live v
      → HasRoot vs → HasRoot (set vs id w)
  root_set vs id v w at made others live root =
      let lives : (i : ℕ) → is_live_at i (set vs id w) ≡ (i == 0 || has root.0.others i) = λ i. live_set i vs id v w at live ∙ root.4 i in
      dite (ℕ_discrete id 0)
      (λ e. let is : v ≡ root.0 = one_value vs 0 v root.0 (subst (λ (k : ℕ). get_elem? vs k ≡ some v) e at) root.1 in
      let m : w.made ≡ root.0.made = made ∙ ap (λ (u : View F E J). u.made) is in
      let o : w.others ≡ root.0.others = others ∙ ap (λ (u : View F E J). u.others) is in (
        w,
        subst (λ (k : ℕ). get_elem? (set vs k w) 0 ≡ some w) (sym e) (set_here vs 0 w (at_within vs 0 root.0 root.1)),
        m ∙ (root.2 ∙ sym (length-set vs id w)),
        rw (m, o) root.3,
        λ i. lives i ∙ ap (λ (ms : List ℕ). i == 0 || has ms i) (sym o),
      ))
      (λ ne. (root.0, set_else vs id 0 w (λ e. ne (sym e)) ∙ root.1, root.2 ∙ sym (length-set vs id w), root.3, lives))

  -- a list in which no view holds the turn
  pub none_holds : (vs : List (View F E J)) → ((j : ℕ) (u : View F E J) → get_elem? vs j ≡ some u → u.holds ≡ false) → turns vs ≡ 0
  none_holds [] empty = refl
  none_holds (x ∷ xs) empty =
      let h = none_holds xs (λ j u e. empty (suc j) u e) in
      let e : turn_of x ≡ 0 = ap (λ b. cond b 1 0) (empty 0 x refl) in omega (arith, turns_cons x xs)

  no_jobs : (vs : List (View F E J)) → ((j : ℕ) (u : View F E J) → get_elem? vs j ≡ some u → u.jobs ≡ []) → jobs_of vs ≡ []
  no_jobs [] empty = refl
  no_jobs (x ∷ xs) empty = let h = no_jobs xs (λ j u e. empty (suc j) u e) in rw (empty 0 x refl, h) refl

  pub none_beside : (id : ℕ) (vs : List (View F E J)) → ((j : ℕ) (u : View F E J) → j ≢ id → get_elem? vs j ≡ some u → u.jobs ≡ []) → jobs_beside id vs ≡ []
  none_beside id [] empty = refl
  none_beside zero (x ∷ xs) empty = no_jobs xs (λ j u e. empty (suc j) u (λ z. omega arith) e)
  none_beside (suc id) (x ∷ xs) empty =
      let h = none_beside id xs (λ j u ne e. empty (suc j) u (λ z. ne (omega arith)) e) in rw (empty 0 x (λ z. omega arith) refl, h) refl

module _ {S F E J : Type 0} (fixed : S → F) (entries : S → List E) (jobs : S → List J) where
  -- the root alone: all other views are spent, and it has seen the whole history
  pub alone : (start : F) (s : State (Option S) (View F E J)) (r : IsKept fixed entries jobs start s) (id : ℕ) (v : View F E J) → get_elem? s.views id ≡ some v
      → v.fixed ≡ Some start → v.number ≡ 0 → v.others ≡ []
      → (r.history ≡ v.seen) × (jobs_beside id s.views ≡ []) × ((j : ℕ) (u : View F E J) → j ≢ id → get_elem? s.views j ≡ some u → u ≡ spent)
  alone start s r id v at is number empty =
      let here : id ≡ 0 = sym (r.numbers id v at (ap is_some is)) ∙ number in
      let root : v ≡ r.root.0 = one_value s.views 0 v r.root.0 (subst (λ (k : ℕ). get_elem? s.views k ≡ some v) here at) r.root.1 in
      let no : r.root.0.others ≡ [] = ap (λ (u : View F E J). u.others) (sym root) ∙ empty in
      let lives : (j : ℕ) (u : View F E J) → get_elem? s.views j ≡ some u → is_live u ≡ true → j ≡ 0 =
      λ j u e live. dite (ℕ_discrete j 0) (λ z. z) (λ ne. absurd (cc (sym (live_at s.views j u e) ∙ r.root.4 j, ap (λ (ms : List ℕ). j == 0 || has ms j) no, ne_eqb j 0 ne))) in
      let others : (j : ℕ) (u : View F E J) → j ≢ id → get_elem? s.views j ≡ some u → u ≡ spent =
      λ j u ne e. ⊎_elim (λ (f : u.fixed ≡ Some start). absurd (ne (lives j u e (ap is_some f) ∙ sym here))) (λ (f : u ≡ spent). f) (r.same j u e) in
      let l = r.longest in
      let first : l.0 ≡ id = lives l.0 l.1 l.2 l.3 ∙ sym here in
      let same : l.1 ≡ v = one_value s.views id l.1 v (subst (λ (k : ℕ). get_elem? s.views k ≡ some l.1) first l.2) at in
      (sym l.4 ∙ ap (λ (u : View F E J). u.seen) same, none_beside id s.views (λ j u ne e. ap (λ (x : View F E J). x.jobs) (others j u ne e)), others)
