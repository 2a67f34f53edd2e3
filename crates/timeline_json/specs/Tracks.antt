-- The tracks, and what a slice is called (our own choice).
use Rattle.std.specs.Prelude.{ℕ, ◌+◌, List, ◌∷◌, ◌++◌, Option, Some, None, codes, decimal}
use Rattle.text_parts.specs.CommandWords.{word_text}
use Rattle.timeline_model.specs.declared.chart.Kind.{Kind}
use Rattle.timeline_model.specs.declared.chart.Kind.TheVariants.{Trace, Hal}
use Rattle.timeline_model.specs.declared.look.HalCall.{HalCall}
use Rattle.timeline_model.specs.declared.look.HalCall.TheVariants.{Open, Init, Template, Configure, Flush, Close}
use Rattle.timeline_model.specs.declared.look.Look.{Look}
use Rattle.timeline_model.specs.declared.look.Look.TheVariants.{Begin, Call, Send, Dropped, Shutter, Partial, Filled, Failed, ErrorRequest, ErrorResult, ErrorBuffer, ErrorDevice, Release, Signal, Early, Late, CallBegin, CallOk, CallError, RequestBegin, RequestOk, RequestError, Refused, Unclear, Unfinished}
use Rattle.timeline_model.specs.declared.seat.Seat.{Seat}
use Rattle.timeline_json.specs.declared.track.Track.{Track}

-- what the whole camera does are threads of process 1
abbrev pub own : ℕ → Track
own thread = record { process = 1; thread = thread }

-- a stream's rows are the threads of its process
abbrev pub row_track : Option Seat → Track
row_track (Some seat) = record { process = 2 + seat.lane; thread = 1 + seat.row }
row_track None = own 4

abbrev pub call_thread : HalCall → ℕ
call_thread Open = 7
call_thread Init = 8
call_thread Template = 9
call_thread Configure = 10
call_thread Flush = 11
call_thread Close = 12

-- calls, requests, shutters, metadata and fences have threads of process 1; all else is in the row of its target
abbrev pub track_of : Look → Option Seat → Track
track_of Begin seat = own 1
track_of (Call _) seat = own 1
track_of Send seat = own 2
track_of Dropped seat = own 2
track_of RequestBegin seat = own 2
track_of RequestOk seat = own 2
track_of RequestError seat = own 2
track_of (Shutter _) seat = own 3
track_of ErrorDevice seat = own 3
track_of (Partial _) seat = own 4
track_of ErrorRequest seat = own 4
track_of ErrorResult seat = own 4
track_of Release seat = own 5
track_of Signal seat = own 5
track_of (CallBegin c) seat = own (call_thread c)
track_of (CallOk c) seat = own (call_thread c)
track_of (CallError c) seat = own (call_thread c)
track_of _ seat = row_track seat

abbrev pub call_text : HalCall → List ℕ
call_text Open = codes "open"
call_text Init = codes "initialize"
call_text Template = codes "template"
call_text Configure = codes "configure"
call_text Flush = codes "flush"
call_text Close = codes "close"

abbrev pub look_text : Look → List ℕ
look_text Begin = codes "begin"
look_text (Call word) = word_text word
look_text Send = codes "send"
look_text Dropped = codes "drop"
look_text (Shutter _) = codes "shutter"
look_text (Partial _) = codes "partial"
look_text Filled = codes "ok"
look_text Failed = codes "failed"
look_text ErrorRequest = codes "error request"
look_text ErrorResult = codes "error result"
look_text ErrorBuffer = codes "error buffer"
look_text ErrorDevice = codes "error device"
look_text Release = codes "release"
look_text Signal = codes "signal"
look_text Early = codes "early"
look_text Late = codes "filled"
look_text (CallBegin _) = codes "begin"
look_text (CallOk c) = call_text c
look_text (CallError c) = call_text c
look_text RequestBegin = codes "request"
look_text RequestOk = codes "accepted"
look_text RequestError = codes "refused"
look_text Refused = codes "refused"
look_text Unclear = codes "unclear"
look_text Unfinished = codes "not done"

-- a word, and behind a space (32) the number, where there is one
abbrev pub named : List ℕ → Option ℕ → List ℕ
named word (Some n) = word ++ 32 ∷ decimal n
named word None = word

-- what a line that is at fault is called
abbrev pub fault_text : Kind → List ℕ
fault_text Trace = codes "not allowed"
fault_text Hal = codes "breach"
