-- The rows of a stream's lane (our own choice): each buffer that is out has a row of its own, as far as there are rows.
use Rattle.std.specs.Prelude.{ℕ, ◌==◌, Bool, ◌&&◌, not, List, [], ◌∷◌, ◌++◌, Option, Some, None, filter, find, length, nat_lt, if◌then◌else◌}
use Rattle.std.specs.List.{list_any, range_with_len}
use Rattle.timeline_model.specs.declared.seat.Seat.{Seat}

-- the seat is row r of lane l
abbrev pub takes_row : ℕ → ℕ → Seat → Bool
takes_row l r seat = (seat.lane == l) && (seat.row == r)

abbrev pub is_free : ℕ → List Seat → ℕ → Bool
is_free l seats r = not (list_any (takes_row l r) seats)

-- the least of the 16 rows of lane l that no bar stands in
abbrev pub free_row : ℕ → List Seat → Option ℕ
free_row l seats = find (is_free l seats) (range_with_len 0 16)

abbrev pub with_row : Seat → Option ℕ → List Seat → List Seat
with_row seat (Some r) seats = seats ++ record seat { row = r } ∷ []
with_row seat None seats = seats

-- the seat with the least free row of its lane, where fewer than 64 bars stand and a row is free
abbrev pub with_seat : Seat → List Seat → List Seat
with_seat seat seats = if nat_lt (length seats) 64 then with_row seat (free_row seat.lane seats) seats else seats

-- of buffer b of frame n
abbrev pub is_seat_of : ℕ → ℕ → Seat → Bool
is_seat_of n b seat = (seat.frame == n) && (seat.buffer == b)

abbrev pub without : ℕ → ℕ → List Seat → List Seat
without n b seats = filter (λ seat. not (is_seat_of n b seat)) seats
