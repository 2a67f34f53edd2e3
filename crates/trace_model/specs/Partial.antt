use Rattle.std.specs.Prelude.{ℕ, ◌==◌, ◌+◌, Bool, ◌&&◌, ◌||◌, not, List, Option, Some, None, count_by, nat_le, if◌then◌else◌}
use Rattle.cam_types.specs.Metadata.{part_at}
use Rattle.cam_types.specs.declared.script.Script.{Script}
use Rattle.trace_model.specs.declared.entry.Entry.{Entry}
use Rattle.trace_model.specs.declared.entry.Entry.TheVariants.{Partial}
use Rattle.trace_model.specs.Entry.{is_partial}
use Rattle.trace_model.specs.Faults.{request_fault, result_fault}
use Rattle.trace_model.specs.Frames.{each_earlier, has_error_request, shutter_time, settings_of}
use Rattle.trace_model.specs.Open.{has_error_result, is_metadata_ended}

-- When a partial result may come (camera3.h, camera3_capture_result.partial_result: each result has its own number,
-- from 1 to the partial result count, which is 3 here; the last one comes in the order of frames).

-- how many partial results frame n has: they come in the order of their numbers
abbrev pub partial_count : ℕ → List Entry → ℕ
partial_count n past = count_by (is_partial n) past

-- part k of frame n may come: the last one needs that no fault keeps it back and that every earlier frame's metadata
-- ended
abbrev pub may_have_partial : Script → List Entry → ℕ → ℕ → Bool
may_have_partial script past n k =
    (not (has_error_request n past) && (not (has_error_result n past) && not (request_fault script n)))
    && (nat_le k 3
    && (not (k == 3) || (not (result_fault script n) && each_earlier n (λ m. is_metadata_ended m past) past)))

abbrev pub partial_of : Script → List Entry → ℕ → ℕ → Option ℕ → Option Entry
partial_of script past n k (Some time) =
    if may_have_partial script past n k then Some (Partial (record { 0 = n }) k (part_at k (settings_of script past n) time))
    else None
partial_of script past n k None = None

-- the partial result of frame n that is due: the next part, of its settings and the time of its shutter
abbrev pub partial_due : Script → List Entry → ℕ → Option Entry
partial_due script past n = partial_of script past n (partial_count n past + 1) (shutter_time n past)
