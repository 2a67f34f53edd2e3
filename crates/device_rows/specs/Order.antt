use Rattle.std.specs.Prelude.{ℕ, Bool, false, ◌&&◌, ◌||◌, ◌==◌, not, nat_lt, List, Option, Some, None}
use Rattle.std.specs.List.{list_all}
use Rattle.cam_types.specs.declared.row.RowView.{RowView}
use Rattle.cam_types.specs.declared.row.TargetView.{TargetView}
use Rattle.cam_types.specs.Rows.{is_returned}

-- The order of callbacks (camera3.h, process_capture_result): the metadata of frames ends in the order of frames, and
-- so do filled buffers of one stream come back; streams are independent of each other. A buffer whose error is
-- announced keeps no later one waiting (flush, point 3.6), nor does a frame that failed whole.

-- the target is of this stream, and its buffer may still come back filled
abbrev pub is_held_for : ℕ → Option TargetView → Bool
is_held_for s None = false
is_held_for s (Some target) = (target.stream.0 == s) && (not (is_returned target.state) && not target.announced)

-- the frame holds back the buffers of later frames for this stream
abbrev pub holds_back : ℕ → RowView → Bool
holds_back s row =
    not row.request_error
    && (is_held_for s row.targets.a
    || (is_held_for s row.targets.b || (is_held_for s row.targets.c || is_held_for s row.targets.d)))

-- each of the rows whose frame is below passes the test
abbrev pub each_below : ℕ → (RowView → Bool) → List RowView → Bool
each_below frame test rows = list_all (λ row. not (nat_lt row.frame.0 frame) || test row) rows
