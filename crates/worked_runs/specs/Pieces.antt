-- The pieces of which the worked runs are made: scripts for one device, and what a trace says again and again.
use Rattle.std.specs.Prelude.{ℕ, ◌+◌, ◌*◌, nat_lt, true, false, List, [], ◌∷◌, ◌++◌, Option, None, map}
use Rattle.std.specs.List.{flat_map, range_with_len}
use Rattle.cam_types.specs.Worked.{shot}
use Rattle.cam_types.specs.declared.four.Four.{Four}
use Rattle.cam_types.specs.declared.item.Item.{Item}
use Rattle.cam_types.specs.declared.item.Settings.{Settings}
use Rattle.cam_types.specs.declared.number.FenceNo.{FenceNo}
use Rattle.cam_types.specs.declared.partial_result.PartialResult.TheVariants.{Look, Light, Time}
use Rattle.cam_types.specs.declared.reply.Made.{Made}
use Rattle.cam_types.specs.declared.reply.Reply.TheVariants.{Ok as Accepted, Submitted, Configured}
use Rattle.cam_types.specs.declared.script.Command.{Command}
use Rattle.cam_types.specs.declared.script.Fault.{Fault}
use Rattle.cam_types.specs.declared.script.Script.{Script}
use Rattle.cam_types.specs.declared.script.Word.TheVariants.{Configure as WConfigure, Once as WOnce, Burst as WBurst, Close as WClose}
use Rattle.cam_types.specs.declared.stream.Format.TheVariants.{Raw16, Yuv}
use Rattle.cam_types.specs.declared.stream.StreamSpec.{StreamSpec}
use Rattle.trace_model.specs.Picture.{digest}
use Rattle.trace_model.specs.declared.entry.Entry.{Entry}
use Rattle.trace_model.specs.declared.entry.Entry.TheVariants.{Begin, Call, Send, Shutter, Partial, Filled, Failed, ErrorRequest, Release, Signal}
use Rattle.trace_model.specs.Worked.{frame, buffer, fence, stream, request, with, one, made, two}
use Rattle.worked_runs.specs.Words.{item, output}

-- ---- scripts

-- a script for the usual device: six open frames, and three RAW16 or four YUV buffers of a stream
abbrev pub usual : List Fault → List ℕ → List Command → Script
usual faults picks commands = record {
  version = 1;
  profile = record { depth = 6; raw = 3; yuv = 4 };
  early = false;
  faults = faults;
  picks = picks;
  commands = commands;
}

abbrev pub raw : StreamSpec
raw = output Raw16 160 120

abbrev pub small_yuv : StreamSpec
small_yuv = output Yuv 40 30

abbrev pub middle_yuv : StreamSpec
middle_yuv = output Yuv 80 60

-- the settings of most requests: the first pattern, 10 ms
abbrev pub plain : Settings
plain = shot 0 100 10000000 100

-- an item with a picture of stream s
abbrev pub item_of : Settings → ℕ → Item
item_of settings s = item settings 1 (s ∷ 0 ∷ 0 ∷ 0 ∷ 0 ∷ 0 ∷ 0 ∷ 0 ∷ [])

-- an item with a picture of stream s and one of stream t
abbrev pub item_of_two : Settings → ℕ → ℕ → Item
item_of_two settings s t = item settings 2 (s ∷ t ∷ 0 ∷ 0 ∷ 0 ∷ 0 ∷ 0 ∷ 0 ∷ [])

-- ---- calls

-- call i configures a device at rest, and makes these buffers
abbrev pub configured : ℕ → Four Made → List Entry
configured i buffers = Begin WConfigure ∷ Call i WConfigure (Configured buffers) ∷ []

-- call i submits request r: one item, or several
abbrev pub once_submitted : ℕ → ℕ → Entry
once_submitted i r = Call i WOnce (Submitted (request r))

abbrev pub burst_submitted : ℕ → ℕ → Entry
burst_submitted i r = Call i WBurst (Submitted (request r))

abbrev pub close_begun : Entry
close_begun = Begin WClose

-- call i has closed the device
abbrev pub closed : ℕ → Entry
closed i = Call i WClose Accepted

-- ---- frames

-- frame n of request 0 goes to the device for the request's item i, with buffer n of stream 0, which is fresh; all but
-- the first have the same settings as the one before
abbrev pub first_sent : ℕ → ℕ → Entry
first_sent n i = Send (frame n) (request 0) i (nat_lt 0 n) (one (with 0 n None))

-- frame n of request 0 goes for its item i, with buffer b of stream 0, once fence `wait` is signalled, if there is one
abbrev pub next_sent : ℕ → ℕ → ℕ → Option FenceNo → Entry
next_sent n i b wait = Send (frame n) (request 0) i true (one (with 0 b wait))

-- the first frames of a burst
abbrev pub burst_sent : ℕ → List Entry
burst_sent count = map (λ n. first_sent n n) (range_with_len 0 count)

-- the first frames of a request that repeats one item
abbrev pub repeat_sent : ℕ → List Entry
repeat_sent count = map (λ n. first_sent n 0) (range_with_len 0 count)

-- when frame n is exposed, where each frame takes the shortest time, a thirtieth of a second
abbrev pub exposed : ℕ → ℕ
exposed n = 1000000000 + 33333333 * n

abbrev pub shutter : ℕ → Entry
shutter n = Shutter (frame n) (exposed n)

-- the shutters of so many frames, from frame n on
abbrev pub shutters : ℕ → ℕ → List Entry
shutters n count = map shutter (range_with_len n count)

-- the three partial results of frame n, which was exposed at this time
abbrev pub partials_at : Settings → ℕ → ℕ → List Entry
partials_at settings n time =
    Partial (frame n) 1 (Look settings.pattern settings.level)
    ∷ Partial (frame n) 2 (Light settings.exposure settings.iso)
    ∷ Partial (frame n) 3 (Time time)
    ∷ []

-- those of so many frames, from frame n on
abbrev pub partials : Settings → ℕ → ℕ → List Entry
partials settings n count = flat_map (λ m. partials_at settings m (exposed m)) (range_with_len n count)

-- frame n's shutter and its partial results
abbrev pub shown : Settings → ℕ → List Entry
shown settings n = shutter n ∷ partials settings n 1

-- ---- buffers

-- buffer b of stream s comes back filled for frame n
abbrev pub fills : StreamSpec → Settings → ℕ → ℕ → ℕ → Entry
fills spec settings n s b = Filled (frame n) (stream s) (buffer b) None (digest spec settings n)

-- the client is done with buffer b, and signals the fence that it gave
abbrev pub released : ℕ → ℕ → List Entry
released b f = Release (buffer b) (fence f) ∷ Signal (fence f) ∷ []

-- buffer b of stream s comes back filled for frame n, and the client is done with it
abbrev pub filled : StreamSpec → Settings → ℕ → ℕ → ℕ → ℕ → List Entry
filled spec settings n s b f = fills spec settings n s b ∷ released b f

-- the same where a frame has waited for a buffer to come back: it goes at once
abbrev pub filled_then : StreamSpec → Settings → ℕ → ℕ → ℕ → ℕ → Entry → List Entry
filled_then spec settings n s b f sent = fills spec settings n s b ∷ sent ∷ released b f

-- and is exposed: buffer b of stream s comes back for frame n, its fence is n too, and frame m is the one that waited
abbrev pub waited : StreamSpec → Settings → ℕ → ℕ → ℕ → Entry → ℕ → List Entry
waited spec settings n s b sent m = filled_then spec settings n s b n sent ++ shown settings m

-- the device is configured for two streams with so many buffers each, and goes to close once it has an item for both
abbrev pub both_sent : ℕ → ℕ → List Entry
both_sent first second =
    configured 0 (two (made 0 first) (made first second))
    ++ once_submitted 1 0
    ∷ Send (frame 0) (request 0) 0 false (two (with 0 0 None) (with 1 first None))
    ∷ close_begun ∷ []

-- so many frames, from frame n on, come back from stream 0 with the buffers from buffer b on
abbrev pub all_filled : StreamSpec → Settings → ℕ → ℕ → ℕ → List Entry
all_filled spec settings n b count =
    flat_map (λ k. filled spec settings (n + k) 0 (b + k) (n + k)) (range_with_len 0 count)

-- a burst for a small stream with so many buffers: so many frames go at once, and the next when the first comes back
abbrev pub burst_until_back : ℕ → ℕ → List Entry
burst_until_back buffers depth =
    configured 0 (one (made 0 buffers))
    ++ burst_submitted 1 0 ∷ burst_sent depth
    ++ close_begun ∷ shutters 0 depth
    ++ partials plain 0 depth
    ++ waited small_yuv plain 0 0 0 (next_sent depth depth depth None) depth

-- so many frames, from frame 0 on, fail whole
abbrev pub requests_failed : ℕ → List Entry
requests_failed count = map (λ n. ErrorRequest (frame n)) (range_with_len 0 count)

-- buffer b of stream s comes back failed for frame n, with no fence left to wait for
abbrev pub failed : ℕ → ℕ → ℕ → Entry
failed n s b = Failed (frame n) (stream s) (buffer b) None
