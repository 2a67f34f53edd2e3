-- The frame that has ended in the second of two cameras, by what each did before and now. (Our own choice; the same as
-- `paired` of specs/Sides.antt.)
use Rattle.std.specs.Prelude.{ℕ, ◌&&◌, not, List, Option, Some, None, if◌then◌else◌}
use Rattle.cam_types.specs.declared.number.FrameNo.{FrameNo}
use Rattle.logical_call.specs.declared.pair.Paired.{Paired}
use Rattle.logical_call.specs.Pairs.{frame_of, is_ended, pair_end}
use Rattle.trace_model.specs.declared.entry.Entry.{Entry}

-- the one frame that may end by an entry, if there is one
abbrev pub frame_after : List Entry → Option Entry → Option ℕ
frame_after past (Some e) = frame_of past e
frame_after past None = None

-- the frame with its end
abbrev pub pair_at : List Entry → List Entry → FrameNo → Paired
pair_at first second n = record { frame = n; end = pair_end n.0 first second }

-- the frame with its end, where it has ended in both now and hadn't before
abbrev pub pair_between : List Entry → List Entry → List Entry → List Entry → Option ℕ → Option Paired
pair_between first second now_first now_second (Some n) =
    if (is_ended n now_first && is_ended n now_second) && not (is_ended n first && is_ended n second)
    then Some (pair_at now_first now_second (record { 0 = n }))
    else None
pair_between first second now_first now_second None = None
