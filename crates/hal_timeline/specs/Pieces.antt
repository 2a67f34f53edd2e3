-- What is drawn of an event (our own choice).
use Rattle.std.specs.Prelude.{ℕ, ◌==◌, Bool, ◌&&◌, List, [], ◌∷◌, ◌++◌, Option, Some, None, filter, find, map, if◌then◌else◌}
use Rattle.std.specs.Option.{option_map}
use Rattle.hal_model.specs.Rules.{frame_in}
use Rattle.hal_model.specs.declared.event.HalEvent.{HalEvent}
use Rattle.hal_model.specs.declared.event.HalEvent.TheVariants as event
use Rattle.hal_model.specs.declared.event.Pack.{Pack}
use Rattle.hal_model.specs.declared.event.Pack.TheVariants.{Absent}
use Rattle.hal_model.specs.declared.event.Returned.{Returned}
use Rattle.hal_model.specs.declared.event.Status.{Status}
use Rattle.hal_model.specs.declared.event.Status.TheVariants as status
use Rattle.timeline_model.specs.declared.chart.Lane.{Lane}
use Rattle.timeline_model.specs.declared.chart.Piece.{Piece}
use Rattle.timeline_model.specs.declared.look.HalCall.{HalCall}
use Rattle.timeline_model.specs.declared.look.HalCall.TheVariants.{Open, Init, Template, Configure, Flush, Close}
use Rattle.timeline_model.specs.declared.look.Look.{Look}
use Rattle.timeline_model.specs.declared.look.Look.TheVariants as look
use Rattle.timeline_model.specs.declared.seat.Seat.{Seat}
use Rattle.timeline_model.specs.Seats.{is_seat_of}
use Rattle.hal_timeline.specs.Rows.{Seating, is_lane_of, is_of_frame}
use Rattle.hal_timeline.specs.Walks.{Standing, begun_at, ended_by}
use Rattle.hal_timeline.specs.declared.calls.Asked.{Asked}

-- a result without metadata has its buffers alone
abbrev pub part_look : ℕ → Pack → Option Look
part_look k Absent = None
part_look k _ = Some (look.Partial k)

-- the event's own mark
abbrev pub look_in : HalEvent → Option Look
look_in event.OpenBegin = Some (look.CallBegin Open)
look_in event.OpenOk = Some (look.CallOk Open)
look_in (event.OpenError _) = Some (look.CallError Open)
look_in event.InitBegin = Some (look.CallBegin Init)
look_in event.InitOk = Some (look.CallOk Init)
look_in (event.InitError _) = Some (look.CallError Init)
look_in (event.TemplateBegin _) = Some (look.CallBegin Template)
look_in (event.TemplateOk _) = Some (look.CallOk Template)
look_in (event.TemplateNull _) = Some (look.CallError Template)
look_in (event.ConfigureBegin _ _) = Some (look.CallBegin Configure)
look_in (event.ConfigureOk _) = Some (look.CallOk Configure)
look_in (event.ConfigureError _) = Some (look.CallError Configure)
look_in (event.RequestBegin _ _ _ _ _) = Some look.RequestBegin
look_in (event.RequestOk _) = Some look.RequestOk
look_in (event.RequestError _ _) = Some look.RequestError
look_in (event.Shutter _ time) = Some (look.Shutter time)
look_in (event.ErrorRequest _) = Some look.ErrorRequest
look_in (event.ErrorResult _) = Some look.ErrorResult
look_in (event.ErrorBuffer _ _) = Some look.ErrorBuffer
look_in event.ErrorDevice = Some look.ErrorDevice
look_in (event.Results _ k pack _ _) = part_look k pack
look_in event.FlushBegin = Some (look.CallBegin Flush)
look_in event.FlushOk = Some (look.CallOk Flush)
look_in (event.FlushError _) = Some (look.CallError Flush)
look_in event.CloseBegin = Some (look.CallBegin Close)
look_in event.CloseEnd = Some (look.CallOk Close)

-- where the request began, where it is the one in call
abbrev pub asked_at : ℕ → Option Asked → Option ℕ
asked_at n (Some asked) = if asked.frame == n then Some asked.place else None
asked_at n None = None

abbrev pub call_since : Option HalCall → Standing → Option ℕ
call_since (Some call) w = begun_at call w.calls
call_since None w = None

-- where the call began that the event ends
abbrev pub since_in : HalEvent → Standing → Option ℕ
since_in (event.RequestOk n) w = asked_at n w.asked
since_in (event.RequestError n _) w = asked_at n w.asked
since_in e w = call_since (ended_by e) w

-- the seat of frame n in a lane
abbrev pub is_seat_in : ℕ → Lane → Seat → Bool
is_seat_in n lane seat = (seat.frame == n) && (seat.lane == lane.place)

abbrev pub seat_in_lane : ℕ → Option Lane → List Seat → Option Seat
seat_in_lane n (Some lane) seats = find (is_seat_in n lane) seats
seat_in_lane n None seats = None

abbrev pub stream_seat : ℕ → Option ℕ → Seating → Option Seat
stream_seat n (Some s) r = seat_in_lane n (find (is_lane_of s) r.lanes) r.seats
stream_seat n None r = None

-- the row of the buffer of which an error tells
abbrev pub seat_in : HalEvent → Seating → Option Seat
seat_in (event.ErrorBuffer n s) r = stream_seat n s r
seat_in _ r = None

abbrev pub own_piece : HalEvent → Standing → Look → Piece
own_piece e w look = record { look = look; since = since_in e w; frame = frame_in e; seat = seat_in e w.rows }

abbrev pub own_pieces : HalEvent → Standing → Option Look → List Piece
own_pieces e w (Some look) = own_piece e w look ∷ []
own_pieces e w None = []

-- ---- bars that end

abbrev pub status_look : Status → Look
status_look status.Filled = look.Filled
status_look status.Failed = look.Failed
status_look status.Unknown = look.Unclear

abbrev pub buffer_seat : ℕ → Option ℕ → List Seat → Option Seat
buffer_seat n (Some b) seats = find (is_seat_of n b) seats
buffer_seat n None seats = None

abbrev pub back_piece_in : ℕ → Status → Option Seat → Piece
back_piece_in n s seat = record {
  look = status_look s;
  since = option_map (λ (x : Seat). x.since) seat;
  frame = Some n;
  seat = seat;
}

-- a buffer that comes back, with the bar from its request on
abbrev pub back_piece : ℕ → List Seat → Returned → Piece
back_piece n seats r = back_piece_in n r.status (buffer_seat n r.buffer seats)

-- a bar that ends without its buffer
abbrev pub gone_piece : Look → Seat → Piece
gone_piece look seat = record { look = look; since = Some seat.since; frame = Some seat.frame; seat = Some seat }

-- a result ends the bars of its buffers, a refusal those of its request, and an open all
abbrev pub ended_pieces : HalEvent → List Seat → List Piece
ended_pieces (event.Results n _ _ buffers _) seats = map (back_piece n seats) buffers
ended_pieces (event.RequestError n _) seats = map (gone_piece look.Refused) (filter (is_of_frame n) seats)
ended_pieces event.OpenOk seats = map (gone_piece look.Unfinished) seats
ended_pieces _ seats = []

-- all of an event, by what stands before it
abbrev pub pieces_of : HalEvent → Standing → List Piece
pieces_of e w = own_pieces e w (look_in e) ++ ended_pieces e w.rows.seats
