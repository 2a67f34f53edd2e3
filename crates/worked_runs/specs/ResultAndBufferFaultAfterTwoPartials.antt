-- A capture that lacks its last metadata and one of two buffers. The worked row
-- `result_and_buffer_fault_after_two_partials` of tests/rows.
use Rattle.std.specs.Prelude.{List, [], ◌∷◌, ◌++◌, take}
use Rattle.cam_types.specs.declared.script.Command.TheVariants.{Configure, Once, Close}
use Rattle.cam_types.specs.declared.script.Fault.TheVariants.{Result, Buffer}
use Rattle.cam_types.specs.declared.script.Script.{Script}
use Rattle.trace_model.specs.declared.entry.Entry.{Entry}
use Rattle.trace_model.specs.declared.entry.Entry.TheVariants.{ErrorResult, ErrorBuffer}
use Rattle.worked_runs.specs.Pieces.{closed, failed, filled, item_of_two, partials, plain, raw, shutter, small_yuv, usual, both_sent}
use Rattle.trace_model.specs.Worked.{frame, stream}

abbrev pub result_and_buffer_fault_after_two_partials_script : Script
result_and_buffer_fault_after_two_partials_script =
    usual (Result (frame 0) ∷ Buffer (frame 0) (stream 0) ∷ []) (0 ∷ 0 ∷ 0 ∷ 0 ∷ 0 ∷ 0 ∷ 2 ∷ 2 ∷ [])
    (Configure (raw ∷ small_yuv ∷ []) ∷ Once (item_of_two plain 0 1) ∷ Close ∷ [])

abbrev pub result_and_buffer_fault_after_two_partials_trace : List Entry
result_and_buffer_fault_after_two_partials_trace =
    both_sent 5 6
    ++ shutter 0
    ∷ take 2 (partials plain 0 1)
    ++ ErrorResult (frame 0)
    ∷ ErrorBuffer (frame 0) (stream 0)
    ∷ failed 0 0 0
    ∷ filled small_yuv plain 0 1 5 0
    ++ closed 2 ∷ []
