-- A disconnect cancels a repeating request. The worked row `disconnect_cancels_all` of tests/rows.
use Rattle.std.specs.Prelude.{List, [], ◌∷◌, ◌++◌, None}
use Rattle.cam_types.specs.declared.reply.Reply.TheVariants.{Ok as Accepted, Submitted, Refused}
use Rattle.cam_types.specs.declared.script.Command.TheVariants.{Configure, Repeat, Flush, Disconnect}
use Rattle.cam_types.specs.declared.script.Script.{Script}
use Rattle.cam_types.specs.declared.script.Word.TheVariants.{Repeat as WRepeat, Flush as WFlush, Disconnect as WDisconnect}
use Rattle.trace_model.specs.declared.entry.Entry.{Entry}
use Rattle.trace_model.specs.declared.entry.Entry.TheVariants.{Begin, Call}
use Rattle.worked_runs.specs.Pieces.{configured, failed, item_of, repeat_sent, requests_failed, small_yuv, usual}
use Rattle.trace_model.specs.Worked.{made, one, request}
use Rattle.worked_runs.specs.Words.{preview}

abbrev pub disconnect_cancels_all_script : Script
disconnect_cancels_all_script =
    usual [] [] (Configure (small_yuv ∷ []) ∷ Repeat (item_of preview 0 ∷ []) ∷ Disconnect ∷ Flush ∷ [])

abbrev pub disconnect_cancels_all_trace : List Entry
disconnect_cancels_all_trace =
    configured 0 (one (made 0 6))
    ++ Call 1 WRepeat (Submitted (request 0)) ∷ repeat_sent 4
    ++ Begin WDisconnect ∷ requests_failed 4
    ++ failed 0 0 0
    ∷ failed 1 0 1
    ∷ failed 2 0 2
    ∷ failed 3 0 3
    ∷ Call 2 WDisconnect Accepted
    ∷ Begin WFlush
    ∷ Call 3 WFlush (Refused 2 None None)
    ∷ []
