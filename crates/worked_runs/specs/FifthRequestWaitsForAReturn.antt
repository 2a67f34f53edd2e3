-- Ten requests for a stream of which four buffers may be at the device. The worked row
-- `fifth_request_waits_for_a_return` of tests/rows.
use Rattle.std.specs.Prelude.{List, [], ◌∷◌, ◌++◌, Some, replicate}
use Rattle.cam_types.specs.declared.script.Command.TheVariants.{Configure, Burst, Close}
use Rattle.cam_types.specs.declared.script.Script.{Script}
use Rattle.trace_model.specs.declared.entry.Entry.{Entry}
use Rattle.worked_runs.specs.Pieces.{closed, item_of, next_sent, plain, small_yuv, usual, waited, all_filled, burst_until_back}
use Rattle.trace_model.specs.Worked.{fence}

abbrev pub fifth_request_waits_for_a_return_script : Script
fifth_request_waits_for_a_return_script =
    usual [] [] (Configure (small_yuv ∷ []) ∷ Burst (replicate 10 (item_of plain 0)) ∷ Close ∷ [])

abbrev pub fifth_request_waits_for_a_return_trace : List Entry
fifth_request_waits_for_a_return_trace =
    burst_until_back 6 4
    ++ waited small_yuv plain 1 0 1 (next_sent 5 5 0 (Some (fence 0))) 5
    ++ waited small_yuv plain 2 0 2 (next_sent 6 6 1 (Some (fence 1))) 6
    ++ waited small_yuv plain 3 0 3 (next_sent 7 7 2 (Some (fence 2))) 7
    ++ waited small_yuv plain 4 0 4 (next_sent 8 8 3 (Some (fence 3))) 8
    ++ waited small_yuv plain 5 0 0 (next_sent 9 9 4 (Some (fence 4))) 9
    ++ all_filled small_yuv plain 6 1 4
    ++ closed 2 ∷ []
