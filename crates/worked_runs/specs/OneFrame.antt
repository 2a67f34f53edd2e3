-- A RAW16 stream and one request. The worked row `one_frame` of tests/rows.
use Rattle.std.specs.Prelude.{List, [], ◌∷◌, ◌++◌}
use Rattle.cam_types.specs.declared.script.Command.TheVariants.{Configure, Once, Close}
use Rattle.cam_types.specs.declared.script.Script.{Script}
use Rattle.trace_model.specs.declared.entry.Entry.{Entry}
use Rattle.worked_runs.specs.Pieces.{burst_sent, close_begun, closed, configured, filled, item_of, once_submitted, plain, raw, shown, usual}
use Rattle.trace_model.specs.Worked.{made, one}

abbrev pub one_frame_script : Script
one_frame_script = usual [] [] (Configure (raw ∷ []) ∷ Once (item_of plain 0) ∷ Close ∷ [])

abbrev pub one_frame_trace : List Entry
one_frame_trace =
    configured 0 (one (made 0 5))
    ++ once_submitted 1 0 ∷ burst_sent 1
    ++ close_begun ∷ shown plain 0
    ++ filled raw plain 0 0 0 0
    ++ closed 2 ∷ []
