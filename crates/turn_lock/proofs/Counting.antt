-- The store of the number of entries keeps the rule, and so does a look at it.
use Rattle.std.proofs.Common.{false, ◌≡◌, ℕ, List, [], ◌∷◌, length, get_or, set, refl, ap, sym, ◌∙◌, subst, arith, true, cond, inl, ◌⊎◌, Option, Some, is_some}
use mathlib.Core.Option.{none, some}
use mathlib.Core.List.{IsPrefix}
use lib.ListN.{get_elem?}
use lib.Seq.{set-get_or}
use Rattle.atomic_table.specs.Table.{State, Me, step, keeps, Allows}
use Rattle.atomic_table.proofs.Lists.{set_here, set_else}
use Rattle.turn_lock.specs.declared.view.View.{View}
use Rattle.turn_lock.specs.Views.{turns, jobs_of, jobs_beside, is_live, spent}
use Rattle.turn_lock.specs.Rule.{IsKept, NoneTwice}
use Rattle.turn_lock.specs.Steps.{Tells, Counts}
use Rattle.turn_lock.specs.Turns.{MayLeave, Looks}
use Rattle.turn_lock.proofs.ViewLists.{turn_of, at_within, turns_set, a_turn, no_turn, jobs_set, beside_set}
use Rattle.turn_lock.proofs.Beginnings.{begins_itself, begins_through}
use Rattle.turn_lock.proofs.Keeping.{each_set, root_set, alone}
use Rattle.turn_lock.proofs.Joining.{looked}
use Rattle.turn_lock.proofs.Releasing.{same_value}

module _ {S F E J : Type 0} (fixed : S → F) (entries : S → List E) (jobs : S → List J) where
  -- the view of a holder that has told how many entries it leaves
  abbrev telling : View F E J → S → View F E J
  telling v value = record v { seen = entries value }

  -- the history grows by the entries that the holder added
  told : (start : F) (s : State (Option S) (View F E J)) (r : IsKept fixed entries jobs start s) (id : ℕ) (v : View F E J) → get_elem? s.views id ≡ some v → v.fixed ≡ Some start → v.holds ≡ true
      → (value : S) (count : ℕ) → MayLeave fixed entries jobs start v value → length (entries value) ≡ count
      → IsKept fixed entries jobs start record { words = set s.words 1 count; homes = s.homes; views = set s.views id (telling v value) }
  told start s r id v at is held value count may counted =
      let w : View F E J = telling v value in
      let vs : List (View F E J) = set s.views id w in
      let turn = a_turn s.views id v at held in
      let was : turns s.views ≡ 1 = (let h = r.one in omega arith) in
      let turned : turns vs ≡ turns s.views = (let a = turns_set s.views id v w at in omega arith) in
      let free : View F E J = record v { holds = false } in
      let none_else : turns (set s.views id free) ≡ 0 = (let h = turns_set s.views id v free at in let e : turn_of v ≡ 1 = ap (λ b. cond b 1 0) held in omega arith) in
      let same : jobs_of vs ≡ jobs_of s.views = jobs_set s.views id v w at refl in
      let beside : (j : ℕ) → jobs_beside j vs ≡ jobs_beside j s.views = λ j. beside_set j s.views id v w at refl in
      let knows = r.holder id v at held in
      let begins : IsPrefix r.history (entries value) = subst (λ (es : List E). IsPrefix es (entries value)) knows.0 may.begins in record {
        history = entries value;
        waiting = r.waiting;
        words = ap (λ (ws : List ℕ). set ws 1 count) r.words ∙ (ap (λ (n : ℕ). n ∷ count ∷ r.waiting ∷ []) (sym turned) ∙ ap (λ (n : ℕ). turns vs ∷ n ∷ r.waiting ∷ []) (sym counted));
        one = omega (arith, r.one);
        seen = each_set (λ j u. IsPrefix u.seen (entries value) × IsPrefix u.told u.seen) s.views id w
            (begins_itself (entries value), begins_through v.told v.seen (entries value) (r.seen id v at).1 may.begins)
            (λ j u ne e. (begins_through u.seen r.history (entries value) (r.seen j u e).0 begins, (r.seen j u e).1));
        longest = (id, w, set_here s.views id w (at_within s.views id v at), ap is_some is, refl);
        holder = each_set (λ j u. u.holds ≡ true → (u.seen ≡ entries value) × (u.rest ≡ jobs_beside j vs)) s.views id w
            (λ _. (refl, knows.1 ∙ sym (beside id)))
            (λ j u ne e held'. absurd (no_turn (set s.views id free) j u (set_else s.views id j free ne ∙ e) none_else held'));
        home = λ e. absurd (omega arith);
        once = subst (λ (js : List J). NoneTwice js) (sym same) r.once;
        out = λ _. r.out was;
        numbers = each_set (λ j u. is_live u ≡ true → u.number ≡ j) s.views id w (r.numbers id v at) (λ j u ne e. r.numbers j u e);
        root = root_set s.views id v w at refl refl refl r.root;
        same = each_set (λ j u. (u.fixed ≡ Some start) ⊎ (u ≡ spent)) s.views id w (inl is) (λ j u ne e. r.same j u e);
      }

  tells : (start : F) (slots id : ℕ) (v : View F E J) (value : S) (count : ℕ) → v.fixed ≡ Some start → v.holds ≡ true → MayLeave fixed entries jobs start v value → length (entries value) ≡ count
      → Allows (IsKept fixed entries jobs start) slots id (v, (0, Some value) ∷ []) 1 (λ _. count) (λ _. Tells entries (step slots 1 count 0 none) (v, (0, Some value) ∷ []) count)
  tells start slots id v value count is held may counted s r wide at small = (
    telling v value,
    keeps,
    tt,
    told start s r id v at is held value count may counted,
    (λ other e. ap (λ (x : S). (telling v x, (0, Some value) ∷ [])) (same_value value other e)),
  )

  -- the same of a seat as the code has it
  pub may_tell : (start : F) (slots id : ℕ) (me : Me (Option S) (View F E J)) (value : S) (count : ℕ) → me.1 ≡ (0, Some value) ∷ [] → me.0.fixed ≡ Some start → me.0.holds ≡ true
      → MayLeave fixed entries jobs start me.0 value → length (entries value) ≡ count
      → Allows (IsKept fixed entries jobs start) slots id me 1 (λ _. count) (λ _. Tells entries (step slots 1 count 0 none) me count)
  may_tell start slots id me value count hand is held may counted =
      subst (λ (c : List (ℕ × Option S)). Allows (IsKept fixed entries jobs start) slots id (me.0, c) 1 (λ _. count) (λ _. Tells entries (step slots 1 count 0 none) (me.0, c) count))
      (sym hand) (tells start slots id me.0 value count is held may counted)

  -- the number that a look finds is that of the history
  looks : (start : F) (s : State (Option S) (View F E J)) (r : IsKept fixed entries jobs start s) (id : ℕ) (v : View F E J) → get_elem? s.views id ≡ some v → v.fixed ≡ Some start
      → Looks v (get_or s.words 1 0) (record v { seen = r.history })
  looks start s r id v at is = record {
    is = refl;
    begins = (r.seen id v at).0;
    many = sym (ap (λ (ws : List ℕ). get_or ws 1 0) r.words);
    alone = λ number empty. (alone fixed entries jobs start s r id v at is number empty).0;
  }

  pub may_count : (start : F) (slots id : ℕ) (me : Me (Option S) (View F E J)) → me.0.fixed ≡ Some start
      → Allows (IsKept fixed entries jobs start) slots id me 1 (λ n. n) (Counts (step slots 1 0 0 none) me)
  may_count start slots id (v, carried) is s r wide at small = (
    record v { seen = r.history },
    keeps,
    tt,
    subst (λ (ws : List ℕ). IsKept fixed entries jobs start record { words = ws; homes = s.homes; views = set s.views id (record v { seen = r.history }) }) (sym (set-get_or s.words 1 0))
        (looked fixed entries jobs start s r id v at is r.history v.told (r.seen id v at).0 (begins_itself r.history) (begins_through v.told v.seen r.history (r.seen id v at).1 (r.seen id v at).0)),
    (refl, looks start s r id v at is),
  )
