-- A device of eight open frames and seven buffers of a stream.
use Rattle.std.specs.Prelude.{List, [], ◌∷◌, ◌++◌, Some, replicate}
use Rattle.cam_types.specs.declared.script.Command.TheVariants.{Configure, Burst, Close}
use Rattle.cam_types.specs.declared.script.Script.{Script}
use Rattle.trace_model.specs.declared.entry.Entry.{Entry}
use Rattle.worked_runs.specs.Pieces.{closed, item_of, next_sent, plain, small_yuv, usual, waited, all_filled, burst_until_back}
use Rattle.trace_model.specs.Worked.{fence}

abbrev pub deeper_pipeline_script : Script
deeper_pipeline_script =
    record (usual [] [] (Configure (small_yuv ∷ []) ∷ Burst (replicate 10 (item_of plain 0)) ∷ Close ∷ [])) {
      version = 2;
      profile = record { depth = 8; raw = 3; yuv = 7 };
    }

abbrev pub deeper_pipeline_trace : List Entry
deeper_pipeline_trace =
    burst_until_back 9 7
    ++ waited small_yuv plain 1 0 1 (next_sent 8 8 0 (Some (fence 0))) 8
    ++ waited small_yuv plain 2 0 2 (next_sent 9 9 1 (Some (fence 1))) 9
    ++ all_filled small_yuv plain 3 3 5
    ++ all_filled small_yuv plain 8 0 2
    ++ closed 2 ∷ []
