-- A flush after an early return.
use Rattle.std.specs.Prelude.{true, List, [], ◌∷◌, ◌++◌}
use Rattle.cam_types.specs.declared.reply.Reply.TheVariants.{Ok as Accepted}
use Rattle.cam_types.specs.declared.script.Command.TheVariants.{Configure, Once, Flush, Close}
use Rattle.cam_types.specs.declared.script.Script.{Script}
use Rattle.cam_types.specs.declared.script.Word.TheVariants.{Flush as WFlush}
use Rattle.trace_model.specs.Picture.{digest}
use Rattle.trace_model.specs.declared.entry.Entry.{Entry}
use Rattle.trace_model.specs.declared.entry.Entry.TheVariants.{Begin, Call, ErrorResult, Early, Late}
use Rattle.worked_runs.specs.Pieces.{burst_sent, close_begun, closed, configured, item_of, once_submitted, plain, raw, released, shutter, usual}
use Rattle.trace_model.specs.Worked.{buffer, device_fence, frame, made, one, stream}

abbrev pub early_in_flush_script : Script
early_in_flush_script =
    record
    (usual [] (0 ∷ 0 ∷ 0 ∷ 0 ∷ 1 ∷ 1 ∷ 2 ∷ 3 ∷ []) (Configure (raw ∷ []) ∷ Once (item_of plain 0) ∷ Flush ∷ Close ∷ [])) {
      early = true;
    }

abbrev pub early_in_flush_trace : List Entry
early_in_flush_trace =
    configured 0 (one (made 0 5))
    ++ once_submitted 1 0 ∷ burst_sent 1
    ++ shutter 0
    ∷ Early (frame 0) (stream 0) (buffer 0) (device_fence 0)
    ∷ Begin WFlush
    ∷ ErrorResult (frame 0)
    ∷ Late (device_fence 0) (digest raw plain 0)
    ∷ released 0 0
    ++ Call 2 WFlush Accepted ∷ close_begun ∷ closed 3 ∷ []
