-- The device fails; what was queued is dropped, what was sent ends by errors. The worked row `device_failure` of
-- tests/rows.
use Rattle.std.specs.Prelude.{List, [], ◌∷◌, ◌++◌, None, replicate}
use Rattle.cam_types.specs.declared.reply.Reply.TheVariants.{Refused}
use Rattle.cam_types.specs.declared.script.Command.TheVariants.{Configure, Burst, Wait, Flush, Close}
use Rattle.cam_types.specs.declared.script.Fault.TheVariants.{Device}
use Rattle.cam_types.specs.declared.script.Script.{Script}
use Rattle.cam_types.specs.declared.script.Word.TheVariants.{Wait as WWait, Flush as WFlush}
use Rattle.trace_model.specs.declared.entry.Entry.{Entry}
use Rattle.trace_model.specs.declared.entry.Entry.TheVariants.{Begin, Call, Dropped, ErrorDevice}
use Rattle.worked_runs.specs.Pieces.{burst_sent, burst_submitted, close_begun, closed, configured, failed, item_of, plain, requests_failed, shutters, small_yuv, usual}
use Rattle.trace_model.specs.Worked.{frame, made, one, request}

abbrev pub device_failure_script : Script
device_failure_script =
    usual (Device (frame 2) ∷ []) []
    (Configure (small_yuv ∷ []) ∷ Burst (replicate 6 (item_of plain 0)) ∷ Wait ∷ Flush ∷ Close ∷ [])

abbrev pub device_failure_trace : List Entry
device_failure_trace =
    configured 0 (one (made 0 6))
    ++ burst_submitted 1 0 ∷ burst_sent 4
    ++ Begin WWait ∷ shutters 0 2
    ++ ErrorDevice
    ∷ Call 2 WWait (Refused 3 None None)
    ∷ Begin WFlush
    ∷ Call 3 WFlush (Refused 3 None None)
    ∷ close_begun
    ∷ Dropped (frame 4) (request 0) 4
    ∷ Dropped (frame 5) (request 0) 5
    ∷ requests_failed 4
    ++ failed 2 0 2 ∷ failed 3 0 3 ∷ failed 0 0 0 ∷ failed 1 0 1 ∷ closed 4 ∷ []
