-- What the calls of a turnstile say of a seat's view: v before, w after.
use Rattle.std.specs.Prelude.{◌≡◌, ℕ, ◌+◌, true, false, List, [], ◌∷◌, ◌++◌, length, IsPermutation, Contains}
use mathlib.Core.List.{IsPrefix}
use Rattle.turn_lock.specs.declared.view.View.{View}
use Rattle.turn_lock.specs.Views.{idle_view, without, longer}
use Rattle.turn_lock.specs.Rule.{NoneTwice}

module _ {F E J : Type 0} where
  -- the root's view after a split
  abbrev pub splitting : View F E J → View F E J
  splitting v = record v { others = v.made ∷ v.others; made = v.made + 1 }

  -- and the view of the new seat
  abbrev pub split_off : View F E J → View F E J
  split_off v = idle_view v.fixed v.made v.seen 0

  -- the root has taken in the seat with the view u, and has then seen all that both had
  pub record Joins (v u w : View F E J) : Type 0 where
    pub is : w ≡ record v { seen = longer v.seen u.seen; others = without u.number v.others; told = [] }
    pub own : IsPrefix v.seen w.seen
    pub other : IsPrefix u.seen w.seen

  -- the seat has looked: it has seen a history with so many entries, which begins with all that it had seen
  pub record Looks (v : View F E J) (count : ℕ) (w : View F E J) : Type 0 where
    pub is : w ≡ record v { seen = w.seen }
    pub begins : IsPrefix v.seen w.seen
    pub many : length w.seen ≡ count
    -- where the root is alone, nobody added to it
    pub alone : v.number ≡ 0 → v.others ≡ [] → w.seen ≡ v.seen

module _ {S F E J : Type 0} (fixed : S → F) (entries : S → List E) (jobs : S → List J) (start : F) where
  -- the seat has the turn, and the value
  pub record Enters (v : View F E J) (value : S) (w : View F E J) : Type 0 where
    pub is : w ≡ record v { seen = entries value; holds = true; rest = w.rest }
    pub same : fixed value ≡ start
    -- it begins with all that the seat had seen
    pub begins : IsPrefix v.seen (entries value)
    -- its jobs out are the seat's and those of the others, none twice
    pub parts : IsPermutation (jobs value) (v.jobs ++ w.rest)
    pub once : NoneTwice (jobs value)
    -- where the root is alone, nobody added to it
    pub alone : v.number ≡ 0 → v.others ≡ [] → (entries value ≡ v.seen) × (w.rest ≡ [])

  -- the value may be left
  pub record MayLeave (v : View F E J) (value : S) : Type 0 where
    pub same : fixed value ≡ start
    pub begins : IsPrefix v.seen (entries value)
    -- no job of another seat is gone
    pub others : (job : J) → Contains v.rest job → Contains (jobs value) job
    pub once : NoneTwice (jobs value)

module _ {S F E J : Type 0} (entries : S → List E) (jobs : S → List J) where
  -- the seat has given up the turn and the value
  pub record Leaves (v : View F E J) (value : S) (w : View F E J) : Type 0 where
    pub is : w ≡ record v { seen = entries value; jobs = w.jobs; holds = false; rest = [] }
    -- it has the jobs out that are not of the others
    pub parts : IsPermutation (jobs value) (w.jobs ++ v.rest)
    pub own : (others : List J) → IsPermutation (jobs value) (others ++ v.rest) → IsPermutation w.jobs others
