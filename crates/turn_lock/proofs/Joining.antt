-- A join keeps the rule, and so does the look after it.
use Rattle.std.proofs.Common.{◌≡◌, ◌≢◌, ℕ, ◌==◌, ◌||◌, ◌&&◌, not, List, [], ◌∷◌, length, set, refl, ap, sym, ◌∙◌, subst, arith, true, false, cond, inl, inr, ◌⊎◌, Option, Some, is_some, IsPermutation, length-set, eq-eqb, ne_eqb}
use mathlib.Core.Logic.{dite}
use mathlib.Core.Option.{none, some}
use mathlib.Core.List.{IsPrefix}
use native.Mathlib.Decide.{ℕ_discrete}
use lib.ListN.{get_elem?}
use lib.Seq.{set-get_or}
use Rattle.atomic_table.specs.Table.{State, Me, step, keeps, Joins, Allows}
use Rattle.atomic_table.proofs.Lists.{set_here, set_else}
use Rattle.turn_lock.specs.declared.view.View.{View}
use Rattle.turn_lock.specs.Views.{turns, jobs_of, jobs_beside, is_live, has, without, IsFalling, spent}
use Rattle.turn_lock.specs.Rule.{IsKept, NoneTwice}
use Rattle.turn_lock.specs.Steps.{joining, Compares}
use Rattle.turn_lock.proofs.ViewLists.{turn_of, at_within, turns_set, jobs_set, beside_set, live_set, live_spent}
use Rattle.turn_lock.proofs.Numbers.{has_without, falling_without}
use Rattle.turn_lock.proofs.Beginnings.{begins_itself, begins_length, begins_whole, longer_begins, longer_whole, shorter_begins}
use Rattle.turn_lock.proofs.Keeping.{each_set, one_value, HasRoot, root_set}

fewer_has : (bound n k : ℕ) (ms : List ℕ) → IsFalling bound ms → n ≢ 0 → ((k == 0 || has ms k) && not (k == n)) ≡ (k == 0 || has (without n ms) k)
fewer_has bound n k ms falls other = dite (ℕ_discrete k 0)
    (λ e. rw (eq-eqb k 0 e, ne_eqb k n (λ f. other (sym f ∙ e))) refl)
    (λ ne. rw (ne_eqb k 0 ne) (sym (has_without bound n ms k falls)))

module _ {F E J : Type 0} where
  root_join : (vs : List (View F E J)) (v w : View F E J) (other : ℕ) → get_elem? vs 0 ≡ some v → is_live v ≡ true → other ≢ 0 → w.number ≡ other → HasRoot vs
      → HasRoot (set (set vs 0 (joining v w)) other spent)
  root_join vs v w other at live ne number root =
      let both : View F E J = joining v w in
      let vs' : List (View F E J) = set vs 0 both in
      let is : root.0 ≡ v = one_value vs 0 root.0 v root.1 at in
      let falls : IsFalling v.made v.others = subst (λ (u : View F E J). IsFalling u.made u.others) is root.3 in (
        both,
        set_else vs' other 0 spent (λ e. ne (sym e)) ∙ set_here vs 0 both (at_within vs 0 v at),
        subst (λ (u : View F E J). u.made ≡ length vs) is root.2 ∙ sym (length-set vs' other spent ∙ length-set vs 0 both),
        falling_without v.made w.number v.others falls,
        λ k. live_spent k vs' other
            ∙ (ap (λ b. b && not (k == other)) (live_set k vs 0 v both at refl ∙ (root.4 k ∙ ap (λ (u : View F E J). k == 0 || has u.others k) is))
            ∙ (ap (λ (n : ℕ). (k == 0 || has v.others k) && not (k == n)) (sym number) ∙ fewer_has v.made w.number k v.others falls (λ e. ne (sym number ∙ e)))),
      )

module _ {S F E J : Type 0} (fixed : S → F) (entries : S → List E) (jobs : S → List J) where
  pub joins : (start : F) (id : ℕ) (v : View F E J) (other : ℕ) (w : View F E J) → v.fixed ≡ Some start → v.number ≡ 0 → w.fixed ≡ Some start → w.holds ≡ false → w.jobs ≡ []
      → Joins (IsKept fixed entries jobs start) id v other w (joining v w) spent
  joins start id v other w is number is' free idle s r at ne at' =
      let both : View F E J = joining v w in
      let vs : List (View F E J) = set s.views id both in
      let vs' : List (View F E J) = set vs other spent in
      let live : is_live v ≡ true = ap is_some is in
      let here : id ≡ 0 = sym (r.numbers id v at live) ∙ number in
      let was : get_elem? s.views other ≡ some w = sym (set_else s.views id other both ne) ∙ at' in
      let number' : w.number ≡ other = r.numbers other w was (ap is_some is') in
      let turned : turns vs' ≡ turns s.views =
      (let a = turns_set s.views id v both at in let b = turns_set vs other w spent at' in let e : turn_of w ≡ 0 = ap (λ c. cond c 1 0) free in omega arith) in
      let same : jobs_of vs' ≡ jobs_of s.views = jobs_set vs other w spent at' (sym idle) ∙ jobs_set s.views id v both at refl in
      let beside : (j : ℕ) → jobs_beside j vs' ≡ jobs_beside j s.views = λ j. beside_set j vs other w spent at' (sym idle) ∙ beside_set j s.views id v both at refl in
      let own = (r.seen id v at).0 in
      let others = (r.seen other w was).0 in
      let whole : (v.seen ≡ r.history) ⊎ (w.seen ≡ r.history) → both.seen ≡ r.history = longer_whole v.seen w.seen r.history own others in
      let Each : (ℕ → View F E J → Type 0) → Type 0 = λ P. P id both → P other spent → ((j : ℕ) (u : View F E J) → get_elem? s.views j ≡ some u → P j u) → (j : ℕ) (u : View F E J) → get_elem? vs' j ≡ some u → P j u in
      let each : (P : ℕ → View F E J → Type 0) → Each P = λ P a b c. each_set P vs other spent b (λ j u ne e. each_set P s.views id both a (λ j u ne e. c j u e) j u e) in
      let Holds : ℕ → View F E J → Type 0 = λ j u. u.holds ≡ true → (u.seen ≡ r.history) × (u.rest ≡ jobs_beside j vs') in
      let there : get_elem? vs' id ≡ some both = set_else vs other id spent (λ e. ne (sym e)) ∙ set_here s.views id both (at_within s.views id v at) in record {
        history = r.history;
        waiting = r.waiting;
        words = r.words ∙ ap (λ (n : ℕ). n ∷ length r.history ∷ r.waiting ∷ []) (sym turned);
        one = omega (arith, r.one);
        seen = each (λ j u. IsPrefix u.seen r.history × IsPrefix u.told u.seen)
            (longer_begins v.seen w.seen r.history own others, shorter_begins v.seen w.seen r.history own others) ((r.history, refl), ([], refl)) r.seen;
        longest = (let l = r.longest in dite (ℕ_discrete l.0 id)
            (λ e. let same : l.1 ≡ v = one_value s.views id l.1 v (subst (λ (k : ℕ). get_elem? s.views k ≡ some l.1) e l.2) at in
            (id, both, there, live, whole (inl (sym (ap (λ (u : View F E J). u.seen) same) ∙ l.4))))
            (λ na. dite (ℕ_discrete l.0 other)
            (λ e. let same : l.1 ≡ w = one_value s.views other l.1 w (subst (λ (k : ℕ). get_elem? s.views k ≡ some l.1) e l.2) was in
            (id, both, there, live, whole (inr (sym (ap (λ (u : View F E J). u.seen) same) ∙ l.4))))
            (λ nb. (l.0, l.1, set_else vs other l.0 spent nb ∙ (set_else s.views id l.0 both na ∙ l.2), l.3, l.4))));
        holder = each Holds
            (λ held. (whole (inl (r.holder id v at held).0), (r.holder id v at held).1 ∙ sym (beside id)))
            (λ held. absurd (cc held))
            (λ j u e held. ((r.holder j u e held).0, (r.holder j u e held).1 ∙ sym (beside j)));
        home = λ e. (let h = r.home (sym turned ∙ e) in (h.0, h.1, h.2, h.3, subst (λ (js : List J). IsPermutation (jobs h.0) js) (sym same) h.4));
        once = subst (λ (js : List J). NoneTwice js) (sym same) r.once;
        out = λ e. r.out (sym turned ∙ e);
        numbers = each (λ j u. is_live u ≡ true → u.number ≡ j) (r.numbers id v at) (λ e. absurd (cc e)) r.numbers;
        root = subst (λ (k : ℕ). HasRoot (set (set s.views k both) other spent)) (sym here)
            (root_join s.views v w other (subst (λ (k : ℕ). get_elem? s.views k ≡ some v) here at) live (λ e. ne (e ∙ sym here)) number' r.root);
        same = each (λ j u. (u.fixed ≡ Some start) ⊎ (u ≡ spent)) (inl is) (inr refl) r.same;
      }

  -- a look changes nothing, but that the seat has seen this beginning of the history, and was told a beginning of that
  pub looked : (start : F) (s : State (Option S) (View F E J)) (r : IsKept fixed entries jobs start s) (id : ℕ) (v : View F E J) → get_elem? s.views id ≡ some v → v.fixed ≡ Some start
      → (seen told : List E) → IsPrefix v.seen seen → IsPrefix seen r.history → IsPrefix told seen
      → IsKept fixed entries jobs start record { words = s.words; homes = s.homes; views = set s.views id (record v { seen = seen; told = told }) }
  looked start s r id v at is seen told more begins first =
      let w : View F E J = record v { seen = seen; told = told } in
      let vs : List (View F E J) = set s.views id w in
      let turned : turns vs ≡ turns s.views = (let a = turns_set s.views id v w at in omega arith) in
      let same : jobs_of vs ≡ jobs_of s.views = jobs_set s.views id v w at refl in
      let beside : (j : ℕ) → jobs_beside j vs ≡ jobs_beside j s.views = λ j. beside_set j s.views id v w at refl in
      let whole : v.seen ≡ r.history → seen ≡ r.history = λ e. begins_whole seen r.history begins (omega (arith, begins_length v.seen seen more, ap length e)) in
      let Holds : ℕ → View F E J → Type 0 = λ j u. u.holds ≡ true → (u.seen ≡ r.history) × (u.rest ≡ jobs_beside j vs) in record {
        history = r.history;
        waiting = r.waiting;
        words = r.words ∙ ap (λ (n : ℕ). n ∷ length r.history ∷ r.waiting ∷ []) (sym turned);
        one = omega (arith, r.one);
        seen = each_set (λ j u. IsPrefix u.seen r.history × IsPrefix u.told u.seen) s.views id w (begins, first) (λ j u ne e. r.seen j u e);
        longest = (let l = r.longest in dite (ℕ_discrete l.0 id)
            (λ e. let same : l.1 ≡ v = one_value s.views id l.1 v (subst (λ (k : ℕ). get_elem? s.views k ≡ some l.1) e l.2) at in
            (id, w, set_here s.views id w (at_within s.views id v at), ap is_some is, whole (sym (ap (λ (u : View F E J). u.seen) same) ∙ l.4)))
            (λ ne. (l.0, l.1, set_else s.views id l.0 w ne ∙ l.2, l.3, l.4)));
        holder = each_set Holds s.views id w
            (λ held. (whole (r.holder id v at held).0, (r.holder id v at held).1 ∙ sym (beside id)))
            (λ j u ne e held. ((r.holder j u e held).0, (r.holder j u e held).1 ∙ sym (beside j)));
        home = λ e. (let h = r.home (sym turned ∙ e) in (h.0, h.1, h.2, h.3, subst (λ (js : List J). IsPermutation (jobs h.0) js) (sym same) h.4));
        once = subst (λ (js : List J). NoneTwice js) (sym same) r.once;
        out = λ e. r.out (sym turned ∙ e);
        numbers = each_set (λ j u. is_live u ≡ true → u.number ≡ j) s.views id w (r.numbers id v at) (λ j u ne e. r.numbers j u e);
        root = root_set s.views id v w at refl refl refl r.root;
        same = each_set (λ j u. (u.fixed ≡ Some start) ⊎ (u ≡ spent)) s.views id w (inl is) (λ j u ne e. r.same j u e);
      }

  pub compares : (start : F) (slots id : ℕ) (v : View F E J) (carried : List (ℕ × Option S)) → v.fixed ≡ Some start
      → Allows (IsKept fixed entries jobs start) slots id (v, carried) 0 (λ n. n) (Compares (step slots 0 0 0 none) (v, carried))
  compares start slots id v carried is s r wide at small = (
    record v { told = [] },
    keeps,
    tt,
    subst (λ (ws : List ℕ). IsKept fixed entries jobs start record { words = ws; homes = s.homes; views = set s.views id (record v { told = [] }) }) (sym (set-get_or s.words 0 0)) (looked start s r id v at is v.seen [] (begins_itself v.seen) (r.seen id v at).0 (v.seen, refl)),
    (refl, (r.seen id v at).1),
  )

  -- the same of a seat as the code has it
  pub may_look : (start : F) (slots id : ℕ) (me : Me (Option S) (View F E J)) (v : View F E J) (carried : List (ℕ × Option S)) → me ≡ (v, carried) → v.fixed ≡ Some start
      → Allows (IsKept fixed entries jobs start) slots id me 0 (λ n. n) (Compares (step slots 0 0 0 none) me)
  may_look start slots id me v carried e is =
      subst (λ (m : Me (Option S) (View F E J)). Allows (IsKept fixed entries jobs start) slots id m 0 (λ n. n) (Compares (step slots 0 0 0 none) m)) (sym e) (compares start slots id v carried is)
