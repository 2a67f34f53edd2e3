-- Eight requests for two streams, of which six frames may be open. The worked row `pipeline_depth_of_six` of
-- tests/rows.
use Rattle.std.specs.Prelude.{true, false, List, [], ◌∷◌, ◌++◌, None}
use Rattle.cam_types.specs.declared.script.Command.TheVariants.{Configure, Burst, Close}
use Rattle.cam_types.specs.declared.script.Script.{Script}
use Rattle.trace_model.specs.declared.entry.Entry.{Entry}
use Rattle.trace_model.specs.declared.entry.Entry.TheVariants.{Send}
use Rattle.worked_runs.specs.Pieces.{burst_submitted, close_begun, closed, configured, filled, item_of, middle_yuv, next_sent, partials, plain, shutters, small_yuv, usual, waited}
use Rattle.trace_model.specs.Worked.{frame, made, one, request, two, with}

abbrev pub pipeline_depth_of_six_script : Script
pipeline_depth_of_six_script =
    usual [] []
    (Configure (middle_yuv ∷ small_yuv ∷ [])
    ∷ Burst
    (item_of plain 0 ∷ item_of plain 1 ∷ item_of plain 0 ∷ item_of plain 1
    ∷ item_of plain 0 ∷ item_of plain 1 ∷ item_of plain 0 ∷ item_of plain 1 ∷ [])
    ∷ Close
    ∷ [])

abbrev pub pipeline_depth_of_six_trace : List Entry
pipeline_depth_of_six_trace =
    configured 0 (two (made 0 6) (made 6 6))
    ++ burst_submitted 1 0
    ∷ Send (frame 0) (request 0) 0 false (one (with 0 0 None))
    ∷ Send (frame 1) (request 0) 1 true (one (with 1 6 None))
    ∷ Send (frame 2) (request 0) 2 true (one (with 0 1 None))
    ∷ Send (frame 3) (request 0) 3 true (one (with 1 7 None))
    ∷ Send (frame 4) (request 0) 4 true (one (with 0 2 None))
    ∷ Send (frame 5) (request 0) 5 true (one (with 1 8 None))
    ∷ close_begun
    ∷ shutters 0 6
    ++ partials plain 0 6
    ++ waited middle_yuv plain 0 0 0 (next_sent 6 6 3 None) 6
    ++ waited small_yuv plain 1 1 6 (Send (frame 7) (request 0) 7 true (one (with 1 9 None))) 7
    ++ filled middle_yuv plain 2 0 1 2
    ++ filled small_yuv plain 3 1 7 3
    ++ filled middle_yuv plain 4 0 2 4
    ++ filled small_yuv plain 5 1 8 5
    ++ filled middle_yuv plain 6 0 3 6
    ++ filled small_yuv plain 7 1 9 7
    ++ closed 2 ∷ []
