-- A preview that repeats, with three stills among it. The worked row `preview_with_stills` of tests/rows.
use Rattle.std.specs.Prelude.{ℕ, ◌+◌, Bool, true, false, List, [], ◌∷◌, ◌++◌, Some, None, replicate}
use Rattle.cam_types.specs.Worked.{shot}
use Rattle.cam_types.specs.declared.item.Settings.{Settings}
use Rattle.cam_types.specs.declared.reply.Reply.TheVariants.{Ok as Accepted, Submitted}
use Rattle.cam_types.specs.declared.script.Command.TheVariants.{Configure, Burst, Repeat, Stop, Wait, Await, Close}
use Rattle.cam_types.specs.declared.script.Script.{Script}
use Rattle.cam_types.specs.declared.script.Word.TheVariants.{Repeat as WRepeat, Stop as WStop, Wait as WWait, Await as WAwait}
use Rattle.cam_types.specs.declared.stream.Format.TheVariants.{Yuv}
use Rattle.cam_types.specs.declared.stream.StreamSpec.{StreamSpec}
use Rattle.trace_model.specs.declared.entry.Entry.{Entry}
use Rattle.trace_model.specs.declared.entry.Entry.TheVariants.{Begin, Call, Send, Shutter}
use Rattle.worked_runs.specs.Pieces.{burst_submitted, close_begun, closed, configured, filled, filled_then, item_of, item_of_two, middle_yuv, next_sent, partials, partials_at, raw, repeat_sent, shutters, usual, waited}
use Rattle.trace_model.specs.Worked.{fence, frame, made, request, three, two, with}
use Rattle.worked_runs.specs.Words.{output, preview}

abbrev pub full_yuv : StreamSpec
full_yuv = output Yuv 160 120

-- the settings of a still, 50 ms
abbrev pub still : Settings
still = shot 1 200 50000000 100

abbrev pub preview_with_stills_script : Script
preview_with_stills_script =
    usual [] []
    (Configure (middle_yuv ∷ raw ∷ full_yuv ∷ [])
    ∷ Repeat (item_of preview 0 ∷ [])
    ∷ Await 5
    ∷ Burst (replicate 3 (item_of_two still 1 2))
    ∷ Stop
    ∷ Wait
    ∷ Close
    ∷ [])

-- frame n is that of still i, with buffers b and c
abbrev pub still_sent : ℕ → ℕ → Bool → ℕ → ℕ → Entry
still_sent n i same b c = Send (frame n) (request 1) i same (two (with 1 b None) (with 2 c None))

-- both pictures of frame n come back, with buffers b and c, and with fence f and the next
abbrev pub still_filled : ℕ → ℕ → ℕ → ℕ → List Entry
still_filled n b c f = filled raw still n 1 b f ++ filled full_yuv still n 2 c (f + 1)

abbrev pub preview_with_stills_trace : List Entry
preview_with_stills_trace =
    configured 0 (three (made 0 6) (made 6 5) (made 11 6))
    ++ Call 1 WRepeat (Submitted (request 0)) ∷ repeat_sent 4
    ++ Begin WAwait ∷ shutters 0 4
    ++ partials preview 0 4
    ++ waited middle_yuv preview 0 0 0 (next_sent 4 0 4 None) 4
    ++ waited middle_yuv preview 1 0 1 (next_sent 5 0 0 (Some (fence 0))) 5
    ++ waited middle_yuv preview 2 0 2 (next_sent 6 0 1 (Some (fence 1))) 6
    ++ waited middle_yuv preview 3 0 3 (next_sent 7 0 2 (Some (fence 2))) 7
    ++ filled_then middle_yuv preview 4 0 4 4 (next_sent 8 0 3 (Some (fence 3)))
    ++ Call 2 WAwait Accepted
    ∷ burst_submitted 3 1
    ∷ still_sent 9 0 false 6 11
    ∷ still_sent 10 1 true 7 12
    ∷ Call 4 WStop Accepted
    ∷ Begin WWait
    ∷ shutters 8 2
    ++ Shutter (frame 10) 1349999997
    ∷ partials preview 8 1
    ++ partials still 9 1
    ++ partials_at still 10 1349999997
    ++ filled_then middle_yuv preview 5 0 0 5 (still_sent 11 2 true 8 13)
    ++ Shutter (frame 11) 1399999997
    ∷ partials_at still 11 1399999997
    ++ filled middle_yuv preview 6 0 1 6
    ++ filled middle_yuv preview 7 0 2 7
    ++ filled middle_yuv preview 8 0 3 8
    ++ still_filled 9 6 11 9
    ++ still_filled 10 7 12 11
    ++ still_filled 11 8 13 13
    ++ Call 5 WWait Accepted
    ∷ close_begun
    ∷ closed 6
    ∷ []
