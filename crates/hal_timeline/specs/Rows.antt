-- The lanes of streams, and the rows of the buffers that the device has (our own choice).
use Rattle.std.specs.Prelude.{ℕ, ◌+◌, ◌==◌, Bool, ◌&&◌, not, List, [], ◌∷◌, ◌++◌, Option, Some, None, filter, find, length, max, min, nat_lt, if◌then◌else◌}
use Rattle.std.specs.List.{list_any}
use Rattle.hal_model.specs.Words.{is_number}
use Rattle.hal_model.specs.declared.event.HalEvent.{HalEvent}
use Rattle.hal_model.specs.declared.event.HalEvent.TheVariants.{OpenOk, RequestBegin, RequestError, Results}
use Rattle.hal_model.specs.declared.event.HalTarget.{HalTarget}
use Rattle.hal_model.specs.declared.event.Returned.{Returned}
use Rattle.timeline_model.specs.declared.chart.Lane.{Lane}
use Rattle.timeline_model.specs.declared.seat.Seat.{Seat}
use Rattle.timeline_model.specs.Seats.{with_seat}
use Rattle.hal_timeline.specs.declared.rows.Rows.{Rows}

-- the lanes, the rows of the buffers that aren't back, the highest row so far, and how many buffers had none
pub record Seating : Type 0 where
  pub lanes : List Lane
  pub seats : List Seat
  pub most : ℕ
  pub left : ℕ

-- as the code has them
abbrev pub seating_of : Rows → Seating
seating_of r = record { lanes = r.lanes.items; seats = r.seats.items; most = r.most; left = r.left }

abbrev pub is_lane_of : ℕ → Lane → Bool
is_lane_of s lane = lane.stream == s

-- a stream that a request names has a lane from then on: the first 64 have
abbrev pub with_lane : ℕ → List Lane → List Lane
with_lane s lanes =
    if list_any (is_lane_of s) lanes then lanes
    else (if nat_lt (length lanes) 64 then lanes ++ record { place = length lanes; stream = s } ∷ [] else lanes)

-- the buffer that request n brings for a stream with that lane, at the place
abbrev pub seat_in : Lane → ℕ → ℕ → ℕ → Seat
seat_in lane n b place = record { frame = n; buffer = b; lane = lane.place; row = 0; since = place }

abbrev pub with_buffer : Option Lane → ℕ → ℕ → ℕ → List Seat → List Seat
with_buffer (Some lane) n b place seats = with_seat (seat_in lane n b place) seats
with_buffer None n b place seats = seats

-- the highest row of seats, and of one seen before
abbrev pub highest : ℕ → List Seat → ℕ
highest most [] = most
highest most (seat ∷ seats) = highest (max most seat.row) seats

-- how many buffers were left out; the count stands still at its type's end
abbrev pub left_between : ℕ → ℕ → ℕ → ℕ
left_between before after left = if before == after then min (left + 1) 4294967295 else left

-- one more buffer has a row where there is one, else it is left out
abbrev pub seated_as : List Lane → List Seat → Seating → Seating
seated_as lanes seats r = record {
  lanes = lanes;
  seats = seats;
  most = highest r.most seats;
  left = left_between (length r.seats) (length seats) r.left;
}

abbrev pub seated_in : List Lane → ℕ → ℕ → HalTarget → Seating → Seating
seated_in lanes n place t r =
    seated_as lanes (with_buffer (find (is_lane_of t.stream) lanes) n t.buffer place r.seats) r

abbrev pub seated : ℕ → ℕ → HalTarget → Seating → Seating
seated n place t r = seated_in (with_lane t.stream r.lanes) n place t r

abbrev pub all_seated : ℕ → ℕ → List HalTarget → Seating → Seating
all_seated n place [] r = r
all_seated n place (t ∷ ts) r = all_seated n place ts (seated n place t r)

abbrev pub is_of_frame : ℕ → Seat → Bool
is_of_frame n seat = seat.frame == n

-- the seat's buffer is among those that a result of frame n brings back
abbrev pub is_back_in : ℕ → List Returned → Seat → Bool
is_back_in n buffers seat = is_of_frame n seat && list_any (λ (r : Returned). is_number seat.buffer r.buffer) buffers

abbrev pub with_seats : List Seat → Seating → Seating
with_seats seats r = record r { seats = seats }

-- a request takes rows for its buffers; a result that brings one back leaves its row, a request that is refused those
-- of all its buffers, and a device that is opened anew has none
abbrev pub rows_after : HalEvent → ℕ → Seating → Seating
rows_after (RequestBegin n _ targets _ _) place r = all_seated n place targets r
rows_after (RequestError n _) place r = with_seats (filter (λ seat. not (is_of_frame n seat)) r.seats) r
rows_after (Results n _ _ buffers _) place r = with_seats (filter (λ seat. not (is_back_in n buffers seat)) r.seats) r
rows_after OpenOk place r = with_seats [] r
rows_after _ place r = r

abbrev pub no_rows : Seating
no_rows = record { lanes = []; seats = []; most = 0; left = 0 }

-- after a log, which has the newest event first; the place of an event is how many stand before it
abbrev pub rows : List HalEvent → Seating
rows [] = no_rows
rows (e ∷ past) = rows_after e (length past) (rows past)
