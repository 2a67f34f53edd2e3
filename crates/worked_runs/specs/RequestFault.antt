-- A capture that fails whole. The worked row `request_fault` of tests/rows.
use Rattle.std.specs.Prelude.{true, false, List, [], ◌∷◌, ◌++◌, None, replicate}
use Rattle.cam_types.specs.declared.script.Command.TheVariants.{Configure, Burst, Close}
use Rattle.cam_types.specs.declared.script.Fault.TheVariants.{Request}
use Rattle.cam_types.specs.declared.script.Script.{Script}
use Rattle.trace_model.specs.declared.entry.Entry.{Entry}
use Rattle.trace_model.specs.declared.entry.Entry.TheVariants.{ErrorRequest, Send}
use Rattle.worked_runs.specs.Pieces.{burst_submitted, close_begun, closed, configured, failed, filled, item_of_two, partials, plain, raw, shutter, shutters, small_yuv, usual}
use Rattle.trace_model.specs.Worked.{frame, made, request, two, with}

abbrev pub request_fault_script : Script
request_fault_script =
    usual (Request (frame 1) ∷ []) []
    (Configure (raw ∷ small_yuv ∷ []) ∷ Burst (replicate 3 (item_of_two plain 0 1)) ∷ Close ∷ [])

abbrev pub request_fault_trace : List Entry
request_fault_trace =
    configured 0 (two (made 0 5) (made 5 6))
    ++ burst_submitted 1 0
    ∷ Send (frame 0) (request 0) 0 false (two (with 0 0 None) (with 1 5 None))
    ∷ Send (frame 1) (request 0) 1 true (two (with 0 1 None) (with 1 6 None))
    ∷ Send (frame 2) (request 0) 2 true (two (with 0 2 None) (with 1 7 None))
    ∷ close_begun
    ∷ shutters 0 2
    ++ ErrorRequest (frame 1)
    ∷ shutter 2
    ∷ failed 1 0 1
    ∷ failed 1 1 6
    ∷ partials plain 0 1
    ++ partials plain 2 1
    ++ filled raw plain 0 0 0 0
    ++ filled small_yuv plain 0 1 5 1
    ++ filled raw plain 2 0 2 2
    ++ filled small_yuv plain 2 1 7 3
    ++ closed 2 ∷ []
