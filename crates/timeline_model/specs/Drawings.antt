-- What is drawn of each entry (our own choice of what is shown): by filters over the entries before it. The place of an
-- entry is how many stand before it. A past has the newest entry first.
use Rattle.std.specs.Prelude.{ℕ, List, [], ◌∷◌, ◌++◌, Option, Some, None, find, length, max}
use Rattle.std.specs.Option.{option_map}
use Rattle.cam_types.specs.Four.{four_list}
use Rattle.cam_types.specs.declared.four.Four.{Four}
use Rattle.cam_types.specs.declared.reply.Reply.TheVariants.{Configured}
use Rattle.cam_types.specs.declared.script.Script.{Script}
use Rattle.trace_model.specs.declared.entry.Entry.{Entry}
use Rattle.trace_model.specs.declared.entry.Entry.TheVariants.{Begin, Call, Send, Filled, Failed, ErrorBuffer, Early, Late}
use Rattle.trace_model.specs.declared.entry.Sent.{Sent}
use Rattle.trace_model.specs.Entry.{is_early_with}
use Rattle.trace_model.specs.Queue.{queued}
use Rattle.trace_model.specs.Stopping.{is_stopping}
use Rattle.timeline_model.specs.Seats.{is_seat_of, with_seat, without}
use Rattle.timeline_model.specs.declared.seat.Seat.{Seat}
use Rattle.timeline_model.specs.declared.drawn.Drawn.{Drawn}
use Rattle.timeline_model.specs.declared.past.Target.{Target}

abbrev pub target_of : Option Entry → Option Target
target_of (Some (Early n s _ _)) = Some (record { frame = n; stream = s })
target_of _ = None

-- the target whose buffer comes back, is filled, or is told in error; of a late fill the one that came back early with
-- its device fence
abbrev pub target_in : Entry → List Entry → Option Target
target_in (Filled n s _ _ _) past = Some (record { frame = n; stream = s })
target_in (Failed n s _ _) past = Some (record { frame = n; stream = s })
target_in (Early n s _ _) past = Some (record { frame = n; stream = s })
target_in (ErrorBuffer n s) past = Some (record { frame = n; stream = s })
target_in (Late d _) past = target_of (find (is_early_with d.0) past)
target_in _ past = None

-- ---- the rows of the buffers that the device isn't done with

-- a target of frame n that is sent at the place has a row in its stream's lane
abbrev pub sent_seat : ℕ → ℕ → Sent → Seat
sent_seat n place t = record { frame = n; buffer = t.stream.0; lane = t.stream.0; row = 0; since = place }

abbrev pub with_sent : ℕ → ℕ → Option Sent → List Seat → List Seat
with_sent n place (Some t) seats = with_seat (sent_seat n place t) seats
with_sent n place None seats = seats

abbrev pub with_targets : ℕ → ℕ → Four Sent → List Seat → List Seat
with_targets n place ts seats =
    with_sent n place ts.d (with_sent n place ts.c (with_sent n place ts.b (with_sent n place ts.a seats)))

-- the seat of the target
abbrev pub seat_for : Option Target → List Seat → Option Seat
seat_for (Some t) seats = find (is_seat_of t.frame.0 t.stream.0) seats
seat_for None seats = None

abbrev pub without_target : Option Target → List Seat → List Seat
without_target (Some t) seats = without t.frame.0 t.stream.0 seats
without_target None seats = seats

-- the bar of a buffer that came back early ends, and one for its late picture begins in the same row
abbrev pub begun_anew : ℕ → Option Seat → List Seat → List Seat
begun_anew place (Some seat) seats = without seat.frame seat.buffer seats ++ record seat { since = place } ∷ []
begun_anew place None seats = seats

abbrev pub seats_after : Entry → List Entry → List Seat → List Seat
seats_after (Send n _ _ _ targets) past seats = with_targets n.0 (length past) targets seats
seats_after (Filled n s _ _ _) past seats = without n.0 s.0 seats
seats_after (Failed n s _ _) past seats = without n.0 s.0 seats
seats_after (Early n s _ _) past seats = begun_anew (length past) (find (is_seat_of n.0 s.0) seats) seats
seats_after (Late d _) past seats = without_target (target_of (find (is_early_with d.0) past)) seats
seats_after _ past seats = seats

-- a send takes rows, and the end of a buffer leaves its one
abbrev pub seats : List Entry → List Seat
seats [] = []
seats (e ∷ past) = seats_after e past (seats past)

-- ---- what ends with an entry

-- the place of the begin that has no call yet
abbrev pub begun_at : List Entry → Option ℕ
begun_at [] = None
begun_at (Begin _ ∷ past) = Some (length past)
begun_at (Call _ _ _ ∷ past) = None
begun_at (_ ∷ past) = begun_at past

abbrev pub since_seat : Option Seat → Option ℕ
since_seat seat = option_map (λ s. s.since) seat

-- the place where what the entry ends began: of a call its begin, of a buffer that comes back its send, of a late fill
-- its early return
abbrev pub since : Entry → Option ℕ → Option Seat → Option ℕ
since (Call _ _ _) begun seat = begun
since (Filled _ _ _ _ _) begun seat = since_seat seat
since (Failed _ _ _ _) begun seat = since_seat seat
since (Early _ _ _ _) begun seat = since_seat seat
since (Late _ _) begun seat = since_seat seat
since _ begun seat = None

-- ---- all of an entry

-- how many streams the entry configures
abbrev pub configured : Entry → ℕ
configured (Call _ _ (Configured made)) = length (four_list made)
configured _ = 0

-- the most streams of an accepted configuration
abbrev pub most_streams : List Entry → ℕ
most_streams [] = 0
most_streams (e ∷ past) = max (most_streams past) (configured e)

abbrev pub seat_in : Entry → List Entry → Option Seat
seat_in e past = seat_for (target_in e past) (seats past)

-- what is drawn of an entry: its place, what it ends, and how long the queue is and whether frames are stopped after it
abbrev pub drawn_of : Script → Entry → List Entry → Drawn
drawn_of script e past = record {
  place = length past;
  entry = e;
  since = since e (begun_at past) (seat_in e past);
  seat = seat_in e past;
  queued = length (queued script (e ∷ past));
  stopping = is_stopping (e ∷ past);
}

-- one for each entry, the oldest first
abbrev pub all_drawn : Script → List Entry → List Drawn
all_drawn script [] = []
all_drawn script (e ∷ past) = all_drawn script past ++ drawn_of script e past ∷ []
