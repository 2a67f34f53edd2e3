-- A second configuration: fresh buffers, and the first frame is marked new. The worked row `reconfiguration_marks_new`
-- of tests/rows.
use Rattle.std.specs.Prelude.{true, false, List, [], ◌∷◌, ◌++◌, None}
use Rattle.cam_types.specs.declared.reply.Reply.TheVariants.{Configured}
use Rattle.cam_types.specs.declared.script.Command.TheVariants.{Configure, Once, Close}
use Rattle.cam_types.specs.declared.script.Script.{Script}
use Rattle.cam_types.specs.declared.script.Word.TheVariants.{Configure as WConfigure}
use Rattle.trace_model.specs.declared.entry.Entry.{Entry}
use Rattle.trace_model.specs.declared.entry.Entry.TheVariants.{Begin, Call, Send}
use Rattle.worked_runs.specs.Pieces.{burst_sent, close_begun, closed, configured, filled, item_of, once_submitted, partials, plain, raw, shown, shutters, usual}
use Rattle.trace_model.specs.Worked.{frame, made, one, request, with}

abbrev pub reconfiguration_marks_new_script : Script
reconfiguration_marks_new_script =
    usual [] []
    (Configure (raw ∷ [])
    ∷ Once (item_of plain 0)
    ∷ Once (item_of plain 0)
    ∷ Configure (raw ∷ [])
    ∷ Once (item_of plain 0)
    ∷ Close
    ∷ [])

abbrev pub reconfiguration_marks_new_trace : List Entry
reconfiguration_marks_new_trace =
    configured 0 (one (made 0 5))
    ++ once_submitted 1 0 ∷ burst_sent 1
    ++ once_submitted 2 1
    ∷ Send (frame 1) (request 1) 0 true (one (with 0 1 None))
    ∷ Begin WConfigure
    ∷ shutters 0 2
    ++ partials plain 0 2
    ++ filled raw plain 0 0 0 0
    ++ filled raw plain 1 0 1 1
    ++ Call 3 WConfigure (Configured (one (made 5 5)))
    ∷ once_submitted 4 2
    ∷ Send (frame 2) (request 2) 0 false (one (with 0 5 None))
    ∷ close_begun
    ∷ shown plain 2
    ++ filled raw plain 2 0 5 2
    ++ closed 5 ∷ []
