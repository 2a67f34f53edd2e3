-- The release keeps the rule, and leaves the seat its own jobs.
use Rattle.std.proofs.Common.{false, ◌≡◌, ℕ, List, [], ◌∷◌, ◌++◌, length, set, refl, ap, sym, ◌∙◌, subst, arith, true, cond, inl, ◌⊎◌, Option, Some, is_some, unwrap_or, IsPermutation}
use Rattle.std.proofs.lemmas.List.Sorted.{IsPermutation-sym, IsPermutation-trans}
use mathlib.Core.Option.{none, some}
use mathlib.Core.Option as maybe
use mathlib.Core.List.{IsPrefix}
use lib.ListN.{get_elem?}
use Rattle.atomic_table.specs.Table.{State, Me, step, gives, Allows}
use Rattle.atomic_table.proofs.Lists.{set_here}
use Rattle.turn_lock.specs.declared.view.View.{View}
use Rattle.turn_lock.specs.Views.{turns, jobs_of, jobs_beside, is_live, spent}
use Rattle.turn_lock.specs.Rule.{IsKept, NoneTwice}
use Rattle.turn_lock.specs.Steps.{Releases}
use Rattle.turn_lock.specs.Turns.{MayLeave, Leaves}
use Rattle.turn_lock.proofs.ViewLists.{turn_of, at_within, turns_set, a_turn, no_turn, beside_set_here, jobs_parts}
use Rattle.turn_lock.proofs.Beginnings.{begins_itself, begins_through}
use Rattle.turn_lock.proofs.JobLists.{none_twice_permutation, none_twice_right, own_part, same_part}
use Rattle.turn_lock.proofs.Keeping.{each_set, root_set}

module _ {S : Type 0} where
  -- the value in the slot that was taken last, where there is one
  abbrev value_in : S → List (ℕ × Option S) → S
  value_in other [] = other
  value_in other (slot ∷ slots) = unwrap_or slot.1 other

  pub same_value : (x y : S) {more : List (ℕ × Option S)} → (0, Some x) ∷ more ≡ (0, Some y) ∷ more → x ≡ y
  same_value x y e = ap (value_in x) e

module _ {S F E J : Type 0} (fixed : S → F) (entries : S → List E) (jobs : S → List J) where
  -- the view of a seat that leaves
  abbrev leaving : View F E J → S → List J → View F E J
  leaving v value own = record v { seen = entries value; jobs = own; holds = false; rest = [] }

  -- the holder's rest has no job twice
  rest_once : (start : F) (s : State (Option S) (View F E J)) (r : IsKept fixed entries jobs start s) (id : ℕ) (v : View F E J) → get_elem? s.views id ≡ some v → v.holds ≡ true → NoneTwice v.rest
  rest_once start s r id v at held =
      subst (λ (js : List J). NoneTwice js) (sym (r.holder id v at held).1)
      (none_twice_right v.jobs (jobs_beside id s.views) (none_twice_permutation (jobs_of s.views) (v.jobs ++ jobs_beside id s.views) (jobs_parts s.views id v at) r.once))

  -- the seat gives the turn up
  released : (start : F) (s : State (Option S) (View F E J)) (r : IsKept fixed entries jobs start s) (id : ℕ) (v : View F E J) → get_elem? s.views id ≡ some v → v.fixed ≡ Some start → v.holds ≡ true
      → (value : S) → MayLeave fixed entries jobs start v value → v.seen ≡ entries value → (own : List J) → IsPermutation (jobs value) (own ++ v.rest)
      → IsKept fixed entries jobs start record { words = set s.words 0 0; homes = set s.homes 0 (some (Some value)); views = set s.views id (leaving v value own) }
  released start s r id v at is held value may told own parts =
      let w : View F E J = leaving v value own in
      let vs : List (View F E J) = set s.views id w in
      let turn = a_turn s.views id v at held in
      let was : turns s.views ≡ 1 = (let h = r.one in omega arith) in
      let free : turns vs ≡ 0 = (let h = turns_set s.views id v w at in let e : turn_of v ≡ 1 = ap (λ b. cond b 1 0) held in omega arith) in
      let knows = r.holder id v at held in
      let all : r.history ≡ entries value = sym knows.0 ∙ told in
      let begins : IsPrefix r.history (entries value) = subst (λ (es : List E). IsPrefix es (entries value)) knows.0 may.begins in
      let rest : v.rest ≡ jobs_beside id vs = knows.1 ∙ sym (beside_set_here s.views id w) in
      let parts' : IsPermutation (jobs value) (own ++ jobs_beside id vs) = subst (λ (js : List J). IsPermutation (jobs value) (own ++ js)) rest parts in
      let out : IsPermutation (jobs value) (jobs_of vs) = IsPermutation-trans (jobs value) (own ++ jobs_beside id vs) (jobs_of vs) parts'
      (IsPermutation-sym (jobs_of vs) (own ++ jobs_beside id vs) (jobs_parts vs id w (set_here s.views id w (at_within s.views id v at)))) in record {
        history = entries value;
        waiting = r.waiting;
        words = ap (λ (ws : List ℕ). set ws 0 0) r.words ∙ (ap (λ (n : ℕ). n ∷ length r.history ∷ r.waiting ∷ []) (sym free) ∙ ap (λ (es : List E). turns vs ∷ length es ∷ r.waiting ∷ []) all);
        one = omega arith;
        seen = each_set (λ j u. IsPrefix u.seen (entries value) × IsPrefix u.told u.seen) s.views id w
            (begins_itself (entries value), begins_through v.told v.seen (entries value) (r.seen id v at).1 may.begins)
            (λ j u ne e. (begins_through u.seen r.history (entries value) (r.seen j u e).0 begins, (r.seen j u e).1));
        longest = (id, w, set_here s.views id w (at_within s.views id v at), ap is_some is, refl);
        holder = λ j u e held'. absurd (no_turn vs j u e free held');
        home = λ _. (value, ap (λ (hs : List (maybe.Option (Option S))). set hs 0 (some (Some value))) (r.out was), may.same, refl, out);
        once = none_twice_permutation (jobs value) (jobs_of vs) out may.once;
        out = λ e. absurd (omega arith);
        numbers = each_set (λ j u. is_live u ≡ true → u.number ≡ j) s.views id w (r.numbers id v at) (λ j u ne e. r.numbers j u e);
        root = root_set s.views id v w at refl refl refl r.root;
        same = each_set (λ j u. (u.fixed ≡ Some start) ⊎ (u ≡ spent)) s.views id w (inl is) (λ j u ne e. r.same j u e);
      }

  leaves : (v : View F E J) (value : S) (own : List J) → NoneTwice (jobs value) → IsPermutation (jobs value) (own ++ v.rest) → Leaves entries jobs v value (leaving v value own)
  leaves v value own once parts = record {
    is = refl;
    parts = parts;
    own = λ others p. same_part own others v.rest (none_twice_permutation (jobs value) (own ++ v.rest) parts once)
        (IsPermutation-trans (own ++ v.rest) (jobs value) (others ++ v.rest) (IsPermutation-sym (jobs value) (own ++ v.rest) parts) p);
  }

  releases : (start : F) (slots id : ℕ) (v : View F E J) (value : S) → v.fixed ≡ Some start → v.holds ≡ true → MayLeave fixed entries jobs start v value → v.seen ≡ entries value
      → Allows (IsKept fixed entries jobs start) slots id (v, (0, Some value) ∷ []) 0 (λ _. 0) (λ _. Releases entries jobs (step slots 0 0 0 none) (v, (0, Some value) ∷ []) 0)
  releases start slots id v value is held may told s r wide at small =
      let own = own_part v.rest (jobs value) (rest_once start s r id v at held) may.others in (
        leaving v value own.0,
        gives,
        tt,
        released start s r id v at is held value may told own.0 own.1,
        (λ other e. (refl, subst (λ (x : S). Leaves entries jobs v x (leaving v value own.0)) (same_value value other e) (leaves v value own.0 may.once own.1))),
      )

  -- the same of a seat as the code has it
  pub may_release : (start : F) (slots id : ℕ) (me : Me (Option S) (View F E J)) (value : S) → me.1 ≡ (0, Some value) ∷ [] → me.0.fixed ≡ Some start → me.0.holds ≡ true
      → MayLeave fixed entries jobs start me.0 value → me.0.seen ≡ entries value
      → Allows (IsKept fixed entries jobs start) slots id me 0 (λ _. 0) (λ _. Releases entries jobs (step slots 0 0 0 none) me 0)
  may_release start slots id me value hand is held may told =
      subst (λ (c : List (ℕ × Option S)). Allows (IsKept fixed entries jobs start) slots id (me.0, c) 0 (λ _. 0) (λ _. Releases entries jobs (step slots 0 0 0 none) (me.0, c) 0))
      (sym hand) (releases start slots id me.0 value is held may told)
