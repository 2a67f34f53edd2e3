-- What a clause reads of a turnstile and of a seat.
use Rattle.std.specs.Prelude.{◌≡◌, ℕ, Bool, List, [], ◌∷◌, Option, Some, None, MatchBool, if◌then◌else◌}
use Rattle.turn_lock.specs.declared.seat.Seat.{Seat}
use Rattle.turn_lock.specs.declared.turnstile.Turnstile.{Turnstile}
use Rattle.turn_lock.specs.declared.view.View.{View}
use Rattle.turn_lock.specs.Turns.{Enters}

-- the slots that a seat holds: while it has the turn, the turnstile's, which is then empty
abbrev pub in_hand : {S : Type 0} → Bool → List (ℕ × Option S)
in_hand holds = if holds then (0, None) ∷ [] else []

module _ {S F E J : Type 0} where
  -- what the seat knows
  abbrev pub view : Seat S F E J → View F E J
  view seat = seat.place.me.0

  -- the seat has the slot in hand, with the value in it
  abbrev pub Carries : Seat S F E J → S → Type 0
  Carries seat value = seat.place.me.1 ≡ (0, Some value) ∷ []

  module _ (fixed : S → F) where
    -- the part of the value that no turn changes
    abbrev pub fixed_of : Turnstile S F E J → F
    fixed_of turnstile = fixed turnstile.table.shared.key.value

    -- the seat is one of the turnstile's
    pub record IsOf (turnstile : Turnstile S F E J) (seat : Seat S F E J) : Type 0 where
      pub table : seat.place.table_id ≡ turnstile.table.shared.table_id
      pub same : (view seat).fixed ≡ Some (fixed_of turnstile)

    -- the seat was made by the turnstile, and no call is under way
    pub record IsSeatOf (turnstile : Turnstile S F E J) (seat : Seat S F E J) : Type 0 where
      pub table : seat.place.table_id ≡ turnstile.table.shared.table_id
      pub same : (view seat).fixed ≡ Some (fixed_of turnstile)
      pub slots : seat.place.me.1 ≡ in_hand (view seat).holds

  module _ (fixed : S → F) (entries : S → List E) (jobs : S → List J) where
    -- the seat, whose view was v, has taken the turn and holds the slot with the value
    abbrev pub HasTurn : Turnstile S F E J → View F E J → Seat S F E J → Type 0
    HasTurn turnstile v seat =
        (value : S) × Carries seat value × Enters fixed entries jobs (fixed_of fixed turnstile) v value (view seat)

    -- where the turn was free the seat, has taken it, and else nothing of the seat changed
    abbrev pub TakesIfFree : Turnstile S F E J → Bool → Seat S F E J → Seat S F E J → Type 0
    TakesIfFree turnstile free old new = MatchBool free (HasTurn turnstile (view old) new) (new.place.me ≡ old.place.me)
