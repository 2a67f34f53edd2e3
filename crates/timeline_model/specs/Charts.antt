-- A timeline as a chart (our own choice of what is drawn).
use Rattle.std.specs.Prelude.{ℕ, ◌+◌, Bool, true, false, List, [], ◌∷◌, ◌++◌, Option, Some, None, length, map, min, nat_lt, if◌then◌else◌}
use Rattle.std.specs.Option.{option_map}
use Rattle.timeline_model.specs.declared.chart.Chart.{Chart}
use Rattle.timeline_model.specs.declared.chart.Group.{Group}
use Rattle.timeline_model.specs.declared.chart.Kind.TheVariants as kind
use Rattle.timeline_model.specs.declared.chart.Lane.{Lane}
use Rattle.timeline_model.specs.declared.chart.Piece.{Piece}
use Rattle.timeline_model.specs.declared.look.Look.{Look}
use Rattle.timeline_model.specs.declared.look.Look.TheVariants as look
use Rattle.timeline_model.specs.declared.seat.Seat.{Seat}
use Rattle.trace_model.specs.declared.entry.Entry.{Entry}
use Rattle.trace_model.specs.declared.entry.Entry.TheVariants.{Begin, Call, Send, Dropped, Shutter, Partial, Filled, Failed, ErrorRequest, ErrorResult, ErrorBuffer, ErrorDevice, Release, Signal, Early, Late}
use Rattle.timeline_model.specs.declared.drawn.Drawn.{Drawn}
use Rattle.timeline_model.specs.declared.drawn.Timeline.{Timeline}
use Rattle.timeline_model.specs.TraceLines.{shown_line}

abbrev pub look_of : Entry → Look
look_of (Begin _) = look.Begin
look_of (Call _ word _) = look.Call word
look_of (Send _ _ _ _ _) = look.Send
look_of (Dropped _ _ _) = look.Dropped
look_of (Shutter _ time) = look.Shutter time
look_of (Partial _ k _) = look.Partial k
look_of (Filled _ _ _ _ _) = look.Filled
look_of (Failed _ _ _ _) = look.Failed
look_of (ErrorRequest _) = look.ErrorRequest
look_of (ErrorResult _) = look.ErrorResult
look_of (ErrorBuffer _ _) = look.ErrorBuffer
look_of ErrorDevice = look.ErrorDevice
look_of (Release _ _) = look.Release
look_of (Signal _) = look.Signal
look_of (Early _ _ _ _) = look.Early
look_of (Late _ _) = look.Late

-- the frame that an entry speaks of, of a late fill by the seat of its buffer
abbrev pub frame_in : Entry → Option Seat → Option ℕ
frame_in (Send n _ _ _ _) seat = Some n.0
frame_in (Dropped n _ _) seat = Some n.0
frame_in (Shutter n _) seat = Some n.0
frame_in (Partial n _ _) seat = Some n.0
frame_in (Filled n _ _ _ _) seat = Some n.0
frame_in (Failed n _ _ _) seat = Some n.0
frame_in (ErrorRequest n) seat = Some n.0
frame_in (ErrorResult n) seat = Some n.0
frame_in (ErrorBuffer n _) seat = Some n.0
frame_in (Early n _ _ _) seat = Some n.0
frame_in (Late _ _) seat = option_map (λ s. s.frame) seat
frame_in _ seat = None

-- the queue's length, or whether frames are stopped, may change
abbrev pub counts_at : Entry → Bool
counts_at (Begin _) = true
counts_at (Call _ _ _) = true
counts_at (Send _ _ _ _ _) = true
counts_at (Dropped _ _ _) = true
counts_at ErrorDevice = true
counts_at _ = false

abbrev pub piece_of : Drawn → Piece
piece_of d = record { look = look_of d.entry; since = d.since; frame = frame_in d.entry d.seat; seat = d.seat }

-- the entry at a place has the line of number place + 2: the trace's first line has number 1, the entry at place 0 the
-- next
abbrev pub group_of : Drawn → Group
group_of d = record {
  place = d.place;
  line = d.place + 2;
  title = shown_line d.entry;
  pieces = piece_of d ∷ [];
  level = d.queued;
  stopping = d.stopping;
  counted = counts_at d.entry;
  broken = false;
}

-- the entry behind the others that isn't allowed
abbrev pub fault_of : ℕ → Entry → Group
fault_of place e = record {
  place = place;
  line = place + 2;
  title = shown_line e;
  pieces = [];
  level = 0;
  stopping = false;
  counted = false;
  broken = true;
}

abbrev pub unfinished_of : Seat → Piece
unfinished_of seat = record { look = look.Unfinished; since = Some seat.since; frame = Some seat.frame; seat = Some seat }

-- the lane of stream s, where there is one
abbrev pub lane_of : ℕ → ℕ → List Lane
lane_of streams s = if nat_lt s streams then record { place = s; stream = s } ∷ [] else []

abbrev pub lanes_of : ℕ → List Lane
lanes_of streams = lane_of streams 0 ++ (lane_of streams 1 ++ (lane_of streams 2 ++ lane_of streams 3))

abbrev pub chart_of : Timeline → Option Entry → List ℕ → Chart
chart_of t fault note = record {
  kind = kind.Trace;
  rows = min t.depth 16;
  lanes = lanes_of t.streams;
  count = length t.drawn;
  groups = map group_of t.drawn;
  unfinished = map unfinished_of t.unfinished;
  fault = option_map (fault_of (length t.drawn)) fault;
  notes = note ∷ [];
}
