-- A flush gives a buffer back with the fence that nobody waited for. The worked row `failed_buffer_keeps_its_fence` of
-- tests/rows.
use Rattle.std.specs.Prelude.{true, false, List, [], ◌∷◌, ◌++◌, Some, None}
use Rattle.cam_types.specs.declared.reply.Reply.TheVariants.{Ok as Accepted}
use Rattle.cam_types.specs.declared.script.Command.TheVariants.{Configure, Once, Flush, Close}
use Rattle.cam_types.specs.declared.script.Script.{Script}
use Rattle.cam_types.specs.declared.script.Word.TheVariants.{Flush as WFlush}
use Rattle.trace_model.specs.declared.entry.Entry.{Entry}
use Rattle.trace_model.specs.declared.entry.Entry.TheVariants.{Begin, Call, Send, Shutter, Failed, ErrorRequest, Release, Signal}
use Rattle.worked_runs.specs.Pieces.{close_begun, closed, configured, filled, fills, item_of, once_submitted, partials_at, plain, raw, shown, usual}
use Rattle.trace_model.specs.Worked.{buffer, fence, frame, made, one, request, stream, with}

abbrev pub failed_buffer_keeps_its_fence_script : Script
failed_buffer_keeps_its_fence_script =
    usual []
    (0 ∷ 0 ∷ 0 ∷ 0 ∷ 1 ∷ 1 ∷ 1 ∷ 1 ∷ 1 ∷ 1 ∷ 1 ∷ 1 ∷ 0 ∷ 1 ∷ 0 ∷ 1 ∷ 1 ∷ 1 ∷ 1 ∷ 1 ∷ 0 ∷ [])
    (Configure (raw ∷ [])
    ∷ Once (item_of plain 0)
    ∷ Once (item_of plain 0)
    ∷ Flush
    ∷ Once (item_of plain 0)
    ∷ Close
    ∷ [])

abbrev pub failed_buffer_keeps_its_fence_trace : List Entry
failed_buffer_keeps_its_fence_trace =
    configured 0 (one (made 0 5))
    ++ once_submitted 1 0 ∷ Send (frame 0) (request 0) 0 false (one (with 0 0 None)) ∷ shown plain 0
    ++ fills raw plain 0 0 0
    ∷ Release (buffer 0) (fence 0)
    ∷ once_submitted 2 1
    ∷ Send (frame 1) (request 1) 0 true (one (with 0 0 (Some (fence 0))))
    ∷ Begin WFlush
    ∷ ErrorRequest (frame 1)
    ∷ Failed (frame 1) (stream 0) (buffer 0) (Some (fence 0))
    ∷ Call 3 WFlush Accepted
    ∷ once_submitted 4 2
    ∷ Send (frame 2) (request 2) 0 true (one (with 0 0 (Some (fence 0))))
    ∷ Signal (fence 0)
    ∷ close_begun
    ∷ Shutter (frame 2) 1033333333
    ∷ partials_at plain 2 1033333333
    ++ filled raw plain 2 0 0 1
    ++ closed 5 ∷ []
