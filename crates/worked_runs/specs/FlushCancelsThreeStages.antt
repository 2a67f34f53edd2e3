-- A flush finds a frame in progress, one that has done nothing, and two in the queue. The worked row
-- `flush_cancels_three_stages` of tests/rows.
use Rattle.std.specs.Prelude.{List, [], ◌∷◌, ◌++◌, replicate, take}
use Rattle.cam_types.specs.declared.reply.Reply.TheVariants.{Ok as Accepted}
use Rattle.cam_types.specs.declared.script.Command.TheVariants.{Configure, Burst, Flush, Close}
use Rattle.cam_types.specs.declared.script.Script.{Script}
use Rattle.cam_types.specs.declared.script.Word.TheVariants.{Flush as WFlush}
use Rattle.trace_model.specs.declared.entry.Entry.{Entry}
use Rattle.trace_model.specs.declared.entry.Entry.TheVariants.{Begin, Call, Dropped, ErrorRequest, ErrorResult, ErrorBuffer}
use Rattle.worked_runs.specs.Pieces.{burst_sent, burst_submitted, close_begun, closed, configured, failed, item_of, partials, plain, raw, shutter, usual}
use Rattle.trace_model.specs.Worked.{frame, made, one, request, stream}

abbrev pub flush_cancels_three_stages_script : Script
flush_cancels_three_stages_script =
    usual [] (0 ∷ 0 ∷ 0 ∷ 0 ∷ 0 ∷ 2 ∷ 4 ∷ 1 ∷ [])
    (Configure (raw ∷ []) ∷ Burst (replicate 4 (item_of plain 0)) ∷ Flush ∷ Close ∷ [])

abbrev pub flush_cancels_three_stages_trace : List Entry
flush_cancels_three_stages_trace =
    configured 0 (one (made 0 5))
    ++ burst_submitted 1 0 ∷ burst_sent 2
    ++ shutter 0 ∷ take 1 (partials plain 0 1)
    ++ Begin WFlush
    ∷ Dropped (frame 2) (request 0) 2
    ∷ Dropped (frame 3) (request 0) 3
    ∷ ErrorResult (frame 0)
    ∷ ErrorBuffer (frame 0) (stream 0)
    ∷ ErrorRequest (frame 1)
    ∷ failed 1 0 1
    ∷ failed 0 0 0
    ∷ Call 2 WFlush Accepted
    ∷ close_begun
    ∷ closed 3
    ∷ []
