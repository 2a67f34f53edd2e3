-- The third word may become anything, and the seat is as before.
use Rattle.std.proofs.Common.{ℕ, List, get_or, set, refl, ap, sym, subst, Option}
use mathlib.Core.Option.{none}
use Rattle.atomic_table.specs.Table.{State, Me, step, keeps, Allows}
use Rattle.atomic_table.proofs.Lists.{set_again}
use Rattle.turn_lock.specs.declared.view.View.{View}
use Rattle.turn_lock.specs.Rule.{IsKept}
use Rattle.turn_lock.specs.Steps.{Stays}

module _ {S F E J : Type 0} (fixed : S → F) (entries : S → List E) (jobs : S → List J) where
  queued : (start : F) (s : State (Option S) (View F E J)) (r : IsKept fixed entries jobs start s) (n : ℕ)
      → IsKept fixed entries jobs start record { words = set s.words 2 n; homes = s.homes; views = s.views }
  queued start s r n = record {
    history = r.history;
    waiting = n;
    words = ap (λ (ws : List ℕ). set ws 2 n) r.words;
    one = r.one;
    seen = r.seen;
    longest = r.longest;
    holder = r.holder;
    home = r.home;
    once = r.once;
    out = r.out;
    numbers = r.numbers;
    root = r.root;
    same = r.same;
  }

  pub may_queue : (start : F) (slots id first : ℕ) (me : Me (Option S) (View F E J)) (f : ℕ → ℕ)
      → Allows (IsKept fixed entries jobs start) slots id me 2 f (Stays (step slots 2 first 0 none) me)
  may_queue start slots id first (v, carried) f s r wide at small = (
    v,
    keeps,
    tt,
    subst (λ (vs : List (View F E J)). IsKept fixed entries jobs start record { words = set s.words 2 (f (get_or s.words 2 0)); homes = s.homes; views = vs })
        (sym (set_again s.views id v at)) (queued start s r (f (get_or s.words 2 0))),
    refl,
  )
