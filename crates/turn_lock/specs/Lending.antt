-- What a caller's turns say of a seat, so that it can be lent to threads. v is the seat's view before.
use Rattle.std.specs.Prelude.{◌≡◌, false, [], IsPermutation}
use mathlib.Core.List.{IsPrefix}
use Rattle.turn_lock.specs.declared.seat.Seat.{Seat}
use Rattle.turn_lock.specs.declared.turnstile.Turnstile.{Turnstile}
use Rattle.turn_lock.specs.declared.view.View.{View}
use Rattle.turn_lock.specs.Seats.{view, IsSeatOf}

module _ {F E J : Type 0} where
  -- a turn changes neither the seat's number nor its list of others
  abbrev pub SameSeat : View F E J → View F E J → Type 0
  SameSeat v w = (w.number ≡ v.number) × (w.others ≡ v.others) × (w.made ≡ v.made)

module _ {S F E J : Type 0} (fixed : S → F) where
  -- the seat is one of the turnstile's, and may take a turn
  abbrev pub IsReady : Turnstile S F E J → Seat S F E J → Type 0
  IsReady turnstile seat = IsSeatOf fixed turnstile seat × ((view seat).holds ≡ false)

  -- the seat is ready again, and has seen no less
  abbrev pub IsBack : Turnstile S F E J → View F E J → Seat S F E J → Type 0
  IsBack turnstile v seat =
      IsReady turnstile seat × SameSeat v (view seat) × IsPrefix v.seen (view seat).seen
      × IsPermutation (view seat).jobs v.jobs

  -- it is ready, and has no job
  abbrev pub IsIdle : Turnstile S F E J → Seat S F E J → Type 0
  IsIdle turnstile seat = IsReady turnstile seat × ((view seat).jobs ≡ [])

  -- the seat is idle again
  abbrev pub IsDone : Turnstile S F E J → View F E J → Seat S F E J → Type 0
  IsDone turnstile v seat = IsIdle turnstile seat × SameSeat v (view seat)

  -- the root is idle again, with the same others, and has seen no less
  abbrev pub IsRootAgain : Turnstile S F E J → View F E J → Seat S F E J → Type 0
  IsRootAgain turnstile v seat =
      IsIdle turnstile seat × ((view seat).number ≡ 0) × ((view seat).others ≡ v.others)
      × IsPrefix v.seen (view seat).seen
