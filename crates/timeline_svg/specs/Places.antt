-- Where things stand in the picture, in pixels (our own choice).
use Rattle.std.specs.Prelude.{ℕ, ◌+◌, ◌*◌, Option, Some, None, max, min}
use Rattle.timeline_model.specs.declared.chart.Kind.{Kind}
use Rattle.timeline_model.specs.declared.chart.Kind.TheVariants.{Trace, Hal}
use Rattle.timeline_model.specs.declared.look.HalCall.{HalCall}
use Rattle.timeline_model.specs.declared.look.HalCall.TheVariants as call
use Rattle.timeline_model.specs.declared.look.Look.{Look}
use Rattle.timeline_model.specs.declared.look.Look.TheVariants as look
use Rattle.timeline_model.specs.declared.seat.Seat.{Seat}
use Rattle.timeline_svg.specs.declared.place.Layout.{Layout}

-- ten pixels a line of the input
abbrev pub x_of : ℕ → ℕ
x_of place = 100 + 10 * place

-- a trace has one row for all calls, with words above it; a hal log has one for each of six calls, and its requests and
-- the level stand lower by so much
abbrev pub shift : Kind → ℕ
shift Trace = 0
shift Hal = 19

-- so much lower stands what is below, since the times of a hal log's shutters are long
abbrev pub lower : Kind → ℕ
lower Trace = 0
lower Hal = 39

abbrev pub call_y : HalCall → ℕ
call_y call.Open = 24
call_y call.Init = 35
call_y call.Template = 46
call_y call.Configure = 57
call_y call.Flush = 68
call_y call.Close = 79

-- a row has eleven pixels, of which a bar takes eight
abbrev pub lane_height : ℕ → ℕ
lane_height rows = 11 * rows + 14

-- where the lanes of streams begin, one below the other; a hal log has none for fences above them
abbrev pub top : Kind → ℕ
top Trace = 244
top Hal = 251

abbrev pub lane_top : Layout → ℕ → ℕ
lane_top l lane = top l.kind + lane * lane_height l.rows

-- what has no row stands below the metadata
abbrev pub row_y : Layout → Option Seat → ℕ
row_y l (Some seat) = lane_top l seat.lane + 11 * seat.row
row_y l None = 196 + lower l.kind

-- the lane of metadata has three rows
abbrev pub part_y : ℕ → ℕ
part_y number = 169 + 9 * min number 3

-- calls, requests with the level, the sensor, the metadata and the fences have lanes of their own; all else stands in
-- the row of its target
abbrev pub mark_y : Layout → Option Seat → Look → ℕ
mark_y l seat look.Begin = 60
mark_y l seat (look.Call _) = 60
mark_y l seat (look.CallBegin c) = call_y c
mark_y l seat (look.CallOk c) = call_y c
mark_y l seat (look.CallError c) = call_y c
mark_y l seat look.Send = 124 + shift l.kind
mark_y l seat look.Dropped = 124 + shift l.kind
mark_y l seat look.RequestBegin = 124 + shift l.kind
mark_y l seat look.RequestOk = 124 + shift l.kind
mark_y l seat look.RequestError = 124 + shift l.kind
mark_y l seat (look.Shutter _) = 162 + lower l.kind
mark_y l seat look.ErrorDevice = 162 + lower l.kind
mark_y l seat (look.Partial k) = part_y k + lower l.kind
mark_y l seat look.ErrorRequest = 196 + lower l.kind
mark_y l seat look.ErrorResult = 196 + lower l.kind
mark_y l seat look.Release = 212
mark_y l seat look.Signal = 222
mark_y l seat _ = row_y l seat

-- there is room for one line behind the last, and for notes
abbrev pub width : ℕ → ℕ
width count = max (x_of (count + 1)) 1000

-- where the lanes end
abbrev pub bottom : Layout → ℕ → ℕ
bottom l lanes = top l.kind + 10 + min lanes 64 * lane_height l.rows

-- there is room for up to 100 notes below them
abbrev pub height : ℕ → ℕ → ℕ
height bottom notes = bottom + 14 + 16 * min notes 100
