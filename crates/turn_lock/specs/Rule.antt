-- The rule that a turnstile keeps between any two steps of any threads.
-- The table has three words and one slot. Seats are numbered as they were made, and so are their views. A view is live
-- until a join spends it.
use Rattle.std.specs.Prelude.{◌≡◌, ◌≢◌, ℕ, ◌≤◌, ◌==◌, ◌||◌, ◌⊎◌, true, List, [], ◌∷◌, length, Option, Some, IsPermutation, AllPairs}
use mathlib.Core.Option.{none, some}
use mathlib.Core.List.{IsPrefix}
use lib.ListN.{get_elem?}
use Rattle.atomic_table.specs.Table.{State}
use Rattle.turn_lock.specs.declared.view.View.{View}
use Rattle.turn_lock.specs.Views.{turns, jobs_of, jobs_beside, is_live, is_live_at, has, IsFalling, spent}

-- no job stands there twice
abbrev pub NoneTwice : {J : Type 0} → List J → Type 0
NoneTwice jobs = AllPairs (λ a b. a ≢ b) jobs

module _ {S F E J : Type 0} (fixed : S → F) (entries : S → List E) (jobs : S → List J) where
  -- `start` is the fixed value at the beginning
  pub record IsKept (start : F) (s : State (Option S) (View F E J)) : Type 0 where
    -- the longest list of entries that a live view has seen
    pub history : List E
    -- 1. The first word is 1 where just one view holds the turn, 0 where none does, and nothing else. The second is the
    -- number of entries of the history. The third is anything: nothing stands on it. There is no other word
    pub waiting : ℕ
    pub words : s.words ≡ turns s.views ∷ length history ∷ waiting ∷ []
    pub one : turns s.views ≤ 1
    -- 2. What the views have seen are beginnings of the history. Who holds the turn has seen all of it, and knows the
    -- jobs of the others. What the root was told at its last join begins what it has seen
    pub seen : (i : ℕ) (v : View F E J) → get_elem? s.views i ≡ some v →
        IsPrefix v.seen history × IsPrefix v.told v.seen
    pub longest : (i : ℕ) × (v : View F E J) × (get_elem? s.views i ≡ some v) × (is_live v ≡ true) × (v.seen ≡ history)
    pub holder : (i : ℕ) (v : View F E J) → get_elem? s.views i ≡ some v → v.holds ≡ true →
        (v.seen ≡ history) × (v.rest ≡ jobs_beside i s.views)
    -- 3. Where no view holds the turn, the value is home. Its entries are the history, and its jobs out are those of
    -- the views, none twice
    pub home : turns s.views ≡ 0 →
        (value : S) × (s.homes ≡ some (Some value) ∷ []) × (fixed value ≡ start) × (entries value ≡ history)
        × IsPermutation (jobs value) (jobs_of s.views)
    pub once : NoneTwice (jobs_of s.views)
    -- 4. and 5. Where a view holds the turn, the value is not home: the slot is with the holder's seat. So the value is
    -- home just where no view holds the turn
    pub out : turns s.views ≡ 1 → s.homes ≡ none ∷ []
    -- 6. Each live view has the number of its seat. The live views are the root's, with the number 0, and those in the
    -- root's list, where the latest stands first
    pub numbers : (i : ℕ) (v : View F E J) → get_elem? s.views i ≡ some v → is_live v ≡ true → v.number ≡ i
    pub root : (v : View F E J) × (get_elem? s.views 0 ≡ some v) × (v.made ≡ length s.views) × IsFalling v.made v.others
        × ((i : ℕ) → is_live_at i s.views ≡ (i == 0 || has v.others i))
    -- 7. All live views have the fixed value of the beginning, as the value has that is home. The others are spent
    pub same : (i : ℕ) (v : View F E J) → get_elem? s.views i ≡ some v → (v.fixed ≡ Some start) ⊎ (v ≡ spent)
