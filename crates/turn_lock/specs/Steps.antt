-- What each step on the table tells the seat that makes it: of the seat before and after, with the slots that it holds.
use Rattle.std.specs.Prelude.{◌≡◌, ◌≢◌, ℕ, List, [], ◌∷◌, Option, Some}
use mathlib.Core.List.{IsPrefix}
use Rattle.atomic_table.specs.Table.{Me, Step}
use Rattle.turn_lock.specs.declared.view.View.{View}
use Rattle.turn_lock.specs.Views.{without, longer, shorter}
use Rattle.turn_lock.specs.Turns.{Enters, Leaves, Looks}

module _ {F E J : Type 0} where
  -- the root's view after it has taken in another seat, before it looks
  abbrev pub joining : View F E J → View F E J → View F E J
  joining v u =
      record v { seen = longer v.seen u.seen; others = without u.number v.others; told = shorter v.seen u.seen }

module _ {S F E J : Type 0} where
  -- the look at the number of entries
  abbrev pub Counts : Step (Option S) → Me (Option S) (View F E J) → ℕ → Me (Option S) (View F E J) → Type 0
  Counts step m found n = (n.1 ≡ m.1) × Looks m.0 found n.0

  -- the look after a join: the shorter history begins the longer one
  abbrev pub Compares : Step (Option S) → Me (Option S) (View F E J) → ℕ → Me (Option S) (View F E J) → Type 0
  Compares step m found n = (n ≡ (record m.0 { told = [] }, m.1)) × IsPrefix m.0.told m.0.seen

  -- a step on the third word tells nothing
  abbrev pub Stays : Step (Option S) → Me (Option S) (View F E J) → ℕ → Me (Option S) (View F E J) → Type 0
  Stays step m found n = n ≡ m

  module _ (fixed : S → F) (entries : S → List E) (jobs : S → List J) where
    -- the claim: where the word was 0 the seat has the turn, and the slot with the value
    abbrev pub Claims : Step (Option S) → Me (Option S) (View F E J) → ℕ → Me (Option S) (View F E J) → Type 0
    Claims step m found n =
        (found ≡ 0 →
        (value : S) × (n.1 ≡ (0, Some value) ∷ m.1)
        × ((start : F) → m.0.fixed ≡ Some start → Enters fixed entries jobs start m.0 value n.0))
        × (found ≢ 0 → n ≡ m)

  module _ (entries : S → List E) where
    -- the store of the number of entries, with the value in the slot: the seat has then seen these entries
    abbrev pub Tells : Step (Option S) → Me (Option S) (View F E J) → ℕ → Me (Option S) (View F E J) → Type 0
    Tells step m found n = (value : S) → m.1 ≡ (0, Some value) ∷ [] → n ≡ (record m.0 { seen = entries value }, m.1)

  module _ (entries : S → List E) (jobs : S → List J) where
    -- the release, with the value in the slot
    abbrev pub Releases : Step (Option S) → Me (Option S) (View F E J) → ℕ → Me (Option S) (View F E J) → Type 0
    Releases step m found n = (value : S) → m.1 ≡ (0, Some value) ∷ [] → (n.1 ≡ []) × Leaves entries jobs m.0 value n.0
