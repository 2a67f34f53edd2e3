-- A split keeps the rule.
use Rattle.std.proofs.Common.{◌≡◌, ℕ, ◌<◌, ◌==◌, ◌||◌, List, [], ◌∷◌, ◌++◌, length, set, refl, ap, sym, ◌∙◌, subst, arith, true, false, inl, ◌⊎◌, Some, is_some, IsPermutation, length-set, length-append, eq-eqb, ne_eqb}
use mathlib.Core.Logic.{dite}
use mathlib.Core.Option.{some}
use mathlib.Core.List.{IsPrefix}
use native.Mathlib.Decide.{ℕ_discrete}
use lib.ListN.{get_elem?}
use Rattle.atomic_table.specs.Table.{Splits}
use Rattle.atomic_table.proofs.Lists.{set_here, set_else, at_longer}
use Rattle.turn_lock.specs.declared.view.View.{View}
use Rattle.turn_lock.specs.Views.{turns, jobs_of, jobs_beside, is_live, has, IsFalling, spent}
use Rattle.turn_lock.specs.Rule.{IsKept, NoneTwice}
use Rattle.turn_lock.specs.Turns.{splitting, split_off}
use Rattle.turn_lock.proofs.ViewLists.{at_within, turns_set, turns_snoc, jobs_set, jobs_snoc, beside_set, beside_snoc, live_set, live_snoc}
use Rattle.turn_lock.proofs.Keeping.{each_set, each_snoc, one_value, HasRoot}

more_has : (k made : ℕ) (ms : List ℕ) → ((k == 0 || has ms k) || k == made) ≡ (k == 0 || (made == k || has ms k))
more_has k made ms = dite (ℕ_discrete k made)
    (λ e. rw (eq-eqb k made e, eq-eqb made k (sym e)) (elim (k == 0) as (λ a. ((a || has ms k) || true) ≡ (a || true)) [ true ↦ refl | false ↦ elim (has ms k) as (λ b. (b || true) ≡ true) [ true ↦ refl | false ↦ refl ] ]))
    (λ ne. rw (ne_eqb k made ne, ne_eqb made k (λ e. ne (sym e))) (elim (k == 0) as (λ a. ((a || has ms k) || false) ≡ (a || has ms k)) [ true ↦ refl | false ↦ elim (has ms k) as (λ b. (b || false) ≡ b) [ true ↦ refl | false ↦ refl ] ]))

module _ {F E J : Type 0} where
  root_split : (vs : List (View F E J)) (v : View F E J) → get_elem? vs 0 ≡ some v → is_live v ≡ true → HasRoot vs → HasRoot (set vs 0 (splitting v) ++ split_off v ∷ [])
  root_split vs v at live root =
      let vs' : List (View F E J) = set vs 0 (splitting v) in
      let is : root.0 ≡ v = one_value vs 0 root.0 v root.1 at in
      let made : v.made ≡ length vs = subst (λ (u : View F E J). u.made ≡ length vs) is root.2 in
      let long : length vs' ≡ length vs = length-set vs 0 (splitting v) in
      let falls : IsFalling v.made v.others = subst (λ (u : View F E J). IsFalling u.made u.others) is root.3 in (
        splitting v,
        at_longer vs' (split_off v ∷ []) 0 (splitting v) (set_here vs 0 (splitting v) (at_within vs 0 v at)),
        omega (arith, length-append vs' (split_off v ∷ [])),
        (omega arith, falls),
        λ k. live_snoc k vs' (split_off v) live
            ∙ (ap (λ b. b || k == length vs') (live_set k vs 0 v (splitting v) at refl ∙ (root.4 k ∙ ap (λ (u : View F E J). k == 0 || has u.others k) is))
            ∙ (ap (λ (n : ℕ). (k == 0 || has v.others k) || k == n) (long ∙ sym made) ∙ more_has k v.made v.others)),
      )

module _ {S F E J : Type 0} (fixed : S → F) (entries : S → List E) (jobs : S → List J) where
  pub splits : (start : F) (id : ℕ) (v : View F E J) → v.fixed ≡ Some start → v.number ≡ 0 → Splits (IsKept fixed entries jobs start) id v (splitting v) (split_off v)
  splits start id v is number s r at =
      let left : View F E J = splitting v in
      let right : View F E J = split_off v in
      let vs : List (View F E J) = set s.views id left in
      let live : is_live v ≡ true = ap is_some is in
      let here : id ≡ 0 = sym (r.numbers id v at live) ∙ number in
      let long : length vs ≡ length s.views = length-set s.views id left in
      let turned : turns (vs ++ right ∷ []) ≡ turns s.views = (let a = turns_snoc vs right in let b = turns_set s.views id v left at in omega arith) in
      let same : jobs_of (vs ++ right ∷ []) ≡ jobs_of s.views = jobs_snoc vs right refl ∙ jobs_set s.views id v left at refl in
      let beside : (j : ℕ) → j < length s.views → jobs_beside j (vs ++ right ∷ []) ≡ jobs_beside j s.views =
      λ j lt. beside_snoc j vs right refl (omega arith) ∙ beside_set j s.views id v left at refl in
      let Holds : ℕ → View F E J → Type 0 = λ j u. u.holds ≡ true → (u.seen ≡ r.history) × (u.rest ≡ jobs_beside j (vs ++ right ∷ [])) in
      let holds : (j : ℕ) (u : View F E J) → get_elem? s.views j ≡ some u → Holds j u =
      λ j u e held. ((r.holder j u e held).0, (r.holder j u e held).1 ∙ sym (beside j (at_within s.views j u e))) in
      let made : v.made ≡ length vs = (let root = one_value s.views 0 r.root.0 v r.root.1 (subst (λ (k : ℕ). get_elem? s.views k ≡ some v) here at) in
      sym (ap (λ (u : View F E J). u.made) root) ∙ (r.root.2 ∙ sym long)) in record {
        history = r.history;
        waiting = r.waiting;
        words = r.words ∙ ap (λ (n : ℕ). n ∷ length r.history ∷ r.waiting ∷ []) (sym turned);
        one = omega (arith, r.one);
        seen = each_snoc (λ j u. IsPrefix u.seen r.history × IsPrefix u.told u.seen) vs right ((r.seen id v at).0, (v.seen, refl))
            (each_set (λ j u. IsPrefix u.seen r.history × IsPrefix u.told u.seen) s.views id left (r.seen id v at) (λ j u ne e. r.seen j u e));
        longest = (let l = r.longest in dite (ℕ_discrete l.0 id)
            (λ e. let same : l.1 ≡ v = one_value s.views id l.1 v (subst (λ (k : ℕ). get_elem? s.views k ≡ some l.1) e l.2) at in
            (id, left, at_longer vs (right ∷ []) id left (set_here s.views id left (at_within s.views id v at)), live, sym (ap (λ (u : View F E J). u.seen) same) ∙ l.4))
            (λ ne. (l.0, l.1, at_longer vs (right ∷ []) l.0 l.1 (set_else s.views id l.0 left ne ∙ l.2), l.3, l.4)));
        holder = each_snoc Holds vs right (λ held. absurd (cc held)) (each_set Holds s.views id left (holds id v at) (λ j u ne e. holds j u e));
        home = λ e. (let h = r.home (sym turned ∙ e) in (h.0, h.1, h.2, h.3, subst (λ (js : List J). IsPermutation (jobs h.0) js) (sym same) h.4));
        once = subst (λ (js : List J). NoneTwice js) (sym same) r.once;
        out = λ e. r.out (sym turned ∙ e);
        numbers = each_snoc (λ j u. is_live u ≡ true → u.number ≡ j) vs right (λ _. made)
            (each_set (λ j u. is_live u ≡ true → u.number ≡ j) s.views id left (r.numbers id v at) (λ j u ne e. r.numbers j u e));
        root = subst (λ (k : ℕ). HasRoot (set s.views k left ++ right ∷ [])) (sym here) (root_split s.views v (subst (λ (k : ℕ). get_elem? s.views k ≡ some v) here at) live r.root);
        same = each_snoc (λ j u. (u.fixed ≡ Some start) ⊎ (u ≡ spent)) vs right (inl is)
            (each_set (λ j u. (u.fixed ≡ Some start) ⊎ (u ≡ spent)) s.views id left (inl is) (λ j u ne e. r.same j u e));
      }
