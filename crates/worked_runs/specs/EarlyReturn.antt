-- A buffer comes back before it is filled.
use Rattle.std.specs.Prelude.{true, List, [], ◌∷◌, ◌++◌}
use Rattle.cam_types.specs.declared.script.Command.TheVariants.{Configure, Once, Close}
use Rattle.cam_types.specs.declared.script.Script.{Script}
use Rattle.trace_model.specs.Picture.{digest}
use Rattle.trace_model.specs.declared.entry.Entry.{Entry}
use Rattle.trace_model.specs.declared.entry.Entry.TheVariants.{Early, Late}
use Rattle.worked_runs.specs.Pieces.{burst_sent, close_begun, closed, configured, item_of, once_submitted, partials, plain, raw, released, shutter, usual}
use Rattle.trace_model.specs.Worked.{buffer, device_fence, frame, made, one, stream}

abbrev pub early_return_script : Script
early_return_script =
    record (usual [] (0 ∷ 0 ∷ 0 ∷ 0 ∷ 0 ∷ 0 ∷ 0 ∷ 1 ∷ 2 ∷ []) (Configure (raw ∷ []) ∷ Once (item_of plain 0) ∷ Close ∷ [])) {
      early = true;
    }

abbrev pub early_return_trace : List Entry
early_return_trace =
    configured 0 (one (made 0 5))
    ++ once_submitted 1 0 ∷ burst_sent 1
    ++ close_begun
    ∷ shutter 0
    ∷ Early (frame 0) (stream 0) (buffer 0) (device_fence 0)
    ∷ partials plain 0 1
    ++ Late (device_fence 0) (digest raw plain 0) ∷ released 0 0
    ++ closed 2 ∷ []
