-- The claim keeps the rule, and tells the holder of the value.
use Rattle.std.proofs.Common.{◌≡◌, ℕ, ◌==◌, List, [], ◌∷◌, ◌++◌, get_or, length, set, refl, ap, sym, ◌∙◌, subst, arith, true, false, cond, inl, ◌⊎◌, Option, Some, is_some, IsPermutation}
use Rattle.std.proofs.lemmas.List.Sorted.{IsPermutation-sym, IsPermutation-trans}
use mathlib.Core.Option.{none, some}
use mathlib.Core.Option as maybe
use mathlib.Core.List.{IsPrefix}
use lib.ListN.{get_elem?}
use lib.Seq.{set-get_or}
use prog.Atomic.{either}
use Rattle.atomic_table.specs.Table.{State, Me, step, Act, keeps, takes, stepped, carried_after, Valid, Allows}
use Rattle.atomic_table.proofs.Lists.{set_here, set_again, exchanged}
use Rattle.turn_lock.specs.declared.view.View.{View}
use Rattle.turn_lock.specs.Views.{turns, jobs_of, jobs_beside, is_live, spent}
use Rattle.turn_lock.specs.Rule.{IsKept, NoneTwice}
use Rattle.turn_lock.specs.Seats.{in_hand}
use Rattle.turn_lock.specs.Steps.{Claims}
use Rattle.turn_lock.specs.Turns.{Enters}
use Rattle.turn_lock.proofs.ViewLists.{turn_of, at_within, turns_set, no_turn, jobs_set, beside_set_here, jobs_parts}
use Rattle.turn_lock.proofs.Beginnings.{begins_itself, begins_through}
use Rattle.turn_lock.proofs.JobLists.{none_twice_permutation}
use Rattle.turn_lock.proofs.Keeping.{each_set, root_set, alone}

module _ {S F E J : Type 0} (fixed : S → F) (entries : S → List E) (jobs : S → List J) where
  -- the view of a seat that takes the turn
  abbrev taking : List (View F E J) → ℕ → View F E J → S → View F E J
  taking vs id v value = record v { seen = entries value; holds = true; rest = jobs_beside id vs }

  enters : (start : F) (s : State (Option S) (View F E J)) (r : IsKept fixed entries jobs start s) (id : ℕ) (v : View F E J) → get_elem? s.views id ≡ some v → v.fixed ≡ Some start
      → (value : S) → fixed value ≡ start → entries value ≡ r.history → IsPermutation (jobs value) (jobs_of s.views) → Enters fixed entries jobs start v value (taking s.views id v value)
  enters start s r id v at is value same all out = record {
    is = refl;
    same = same;
    begins = subst (λ (es : List E). IsPrefix v.seen es) (sym all) (r.seen id v at).0;
    parts = IsPermutation-trans (jobs value) (jobs_of s.views) (v.jobs ++ jobs_beside id s.views) out (jobs_parts s.views id v at);
    once = none_twice_permutation (jobs_of s.views) (jobs value) (IsPermutation-sym (jobs value) (jobs_of s.views) out) r.once;
    alone = λ number empty. (let a = alone fixed entries jobs start s r id v at is number empty in (all ∙ a.0, a.1));
  }

  -- the seat takes the turn
  claimed : (start : F) (s : State (Option S) (View F E J)) (r : IsKept fixed entries jobs start s) (id : ℕ) (v : View F E J) → get_elem? s.views id ≡ some v → v.fixed ≡ Some start → v.holds ≡ false
      → turns s.views ≡ 0 → (value : S) → s.homes ≡ some (Some value) ∷ [] → entries value ≡ r.history
      → IsKept fixed entries jobs start record { words = set s.words 0 1; homes = set s.homes 0 none; views = set s.views id (taking s.views id v value) }
  claimed start s r id v at is free turned value home all =
      let w : View F E J = taking s.views id v value in
      let vs : List (View F E J) = set s.views id w in
      let one : turns vs ≡ 1 = (let h = turns_set s.views id v w at in let e : turn_of v ≡ 0 = ap (λ b. cond b 1 0) free in omega arith) in
      let same : jobs_of vs ≡ jobs_of s.views = jobs_set s.views id v w at refl in record {
        history = entries value;
        waiting = r.waiting;
        words = ap (λ (ws : List ℕ). set ws 0 1) r.words ∙ (ap (λ (n : ℕ). n ∷ length r.history ∷ r.waiting ∷ []) (sym one) ∙ ap (λ (es : List E). turns vs ∷ length es ∷ r.waiting ∷ []) (sym all));
        one = omega arith;
        seen = each_set (λ j u. IsPrefix u.seen (entries value) × IsPrefix u.told u.seen) s.views id w
            (begins_itself (entries value), begins_through v.told v.seen (entries value) (r.seen id v at).1 (subst (λ (es : List E). IsPrefix v.seen es) (sym all) (r.seen id v at).0))
            (λ j u ne e. (subst (λ (es : List E). IsPrefix u.seen es) (sym all) (r.seen j u e).0, (r.seen j u e).1));
        longest = (id, w, set_here s.views id w (at_within s.views id v at), ap is_some is, refl);
        holder = each_set (λ j u. u.holds ≡ true → (u.seen ≡ entries value) × (u.rest ≡ jobs_beside j vs)) s.views id w
            (λ _. (refl, sym (beside_set_here s.views id w)))
            (λ j u ne e held. absurd (no_turn s.views j u e turned held));
        home = λ e. absurd (omega arith);
        once = subst (λ (js : List J). NoneTwice js) (sym same) r.once;
        out = λ _. ap (λ (hs : List (maybe.Option (Option S))). set hs 0 none) home;
        numbers = each_set (λ j u. is_live u ≡ true → u.number ≡ j) s.views id w (r.numbers id v at) (λ j u ne e. r.numbers j u e);
        root = root_set s.views id v w at refl refl refl r.root;
        same = each_set (λ j u. (u.fixed ≡ Some start) ⊎ (u ≡ spent)) s.views id w (inl is) (λ j u ne e. r.same j u e);
      }

  pub claims : (start : F) (slots id : ℕ) (v : View F E J) → v.fixed ≡ Some start → v.holds ≡ false
      → Allows (IsKept fixed entries jobs start) slots id (v, []) 0 (λ n. either (n == 0) 1 n) (Claims fixed entries jobs (step slots 0 0 1 none) (v, []))
  claims start slots id v is free s r wide at small =
      let n : ℕ = get_or s.words 0 0 in
      let found : n ≡ turns s.views = ap (λ (ws : List ℕ). get_or ws 0 0) r.words in
      exchanged n 0 1 (λ m. (w : View F E J) × (a : Act (Option S)) × Valid s.homes [] a × IsKept fixed entries jobs start (stepped s 0 m id [] w a) × Claims fixed entries jobs (step slots 0 0 1 none) (v, []) n (w, carried_after [] a))
      (λ hit. let h = r.home (sym found ∙ hit) in
      let tells = enters start s r id v at is h.0 h.2 h.3 h.4 in (
        taking s.views id v h.0,
        takes 0 (Some h.0),
        ap (λ (hs : List (maybe.Option (Option S))). get_elem? hs 0) h.1,
        claimed start s r id v at is free (sym found ∙ hit) h.0 h.1 h.3,
        ((λ _. (h.0, refl, λ other e. subst (λ (f : F). Enters fixed entries jobs f v h.0 (taking s.views id v h.0)) (cc (is, e)) tells)), (λ ne. absurd (ne hit))),
      ))
      (λ miss. (
        v,
        keeps,
        tt,
        subst (λ (p : List ℕ × List (View F E J)). IsKept fixed entries jobs start record { words = p.0; homes = s.homes; views = p.1 }) (λ k. (sym (set-get_or s.words 0 0) k, sym (set_again s.views id v at) k)) r,
        ((λ hit. absurd (miss hit)), (λ _. refl)),
      ))

  -- the same of a seat as the code has it
  pub may_claim : (start : F) (slots id : ℕ) (me : Me (Option S) (View F E J)) → me.1 ≡ in_hand me.0.holds → me.0.fixed ≡ Some start → me.0.holds ≡ false
      → Allows (IsKept fixed entries jobs start) slots id me 0 (λ n. either (n == 0) 1 n) (Claims fixed entries jobs (step slots 0 0 1 none) me)
  may_claim start slots id me hand is free =
      subst (λ (c : List (ℕ × Option S)). Allows (IsKept fixed entries jobs start) slots id (me.0, c) 0 (λ n. either (n == 0) 1 n) (Claims fixed entries jobs (step slots 0 0 1 none) (me.0, c)))
      (sym (hand ∙ ap in_hand free)) (claims start slots id me.0 is free)
