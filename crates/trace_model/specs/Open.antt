use Rattle.std.specs.Prelude.{ℕ, ◌==◌, Bool, ◌&&◌, ◌||◌, not, List, [], ◌∷◌, filter, length, if◌then◌else◌}
use Rattle.std.specs.List.{list_any, list_all}
use Rattle.trace_model.specs.declared.entry.Entry.{Entry}
use Rattle.trace_model.specs.declared.entry.Entry.TheVariants.{Early}
use Rattle.trace_model.specs.Entry.{is_part, is_partial, brings, returns_target, returns_of_frame, is_error_result, is_error_buffer}
use Rattle.trace_model.specs.Fence.{is_late}
use Rattle.trace_model.specs.Frames.{frames, is_sent, targets_of, has_error, has_error_request}

-- When the device is done with a frame (camera3.h, process_capture_result: all metadata and every buffer, errors or
-- not).

abbrev pub has_part : ℕ → ℕ → List Entry → Bool
has_part n k past = list_any (is_part n k) past

abbrev pub has_error_result : ℕ → List Entry → Bool
has_error_result n past = list_any (is_error_result n) past

abbrev pub has_error_buffer : ℕ → ℕ → List Entry → Bool
has_error_buffer n s past = list_any (is_error_buffer n s) past

-- the metadata of frame n ended: by its last part, or by an error that says that it won't come
abbrev pub is_metadata_ended : ℕ → List Entry → Bool
is_metadata_ended n past = has_part n 3 past || (has_error_result n past || has_error_request n past)

-- the buffer of frame n for stream s came back, filled, failed or early
abbrev pub is_returned : ℕ → ℕ → List Entry → Bool
is_returned n s past = list_any (returns_target n s) past

-- the device fences with which it came back early
abbrev pub early_fences : ℕ → ℕ → List Entry → List ℕ
early_fences n s [] = []
early_fences n s (Early m t _ d ∷ past) =
    if (m.0 == n) && (t.0 == s) then d.0 ∷ early_fences n s past else early_fences n s past
early_fences n s (_ ∷ past) = early_fences n s past

-- the device is done with the buffer: it came back filled or failed, or early and its device fence is signalled
abbrev pub is_settled : ℕ → ℕ → List Entry → Bool
is_settled n s past = list_any (brings n s) past || list_any (λ d. is_late d past) (early_fences n s past)

abbrev pub all_settled : ℕ → List Entry → Bool
all_settled n past = list_all (λ t. is_settled n t.stream.0 past) (targets_of n past)

-- frame n is open: it was sent, and its metadata hasn't ended or the device isn't done with a buffer of it
abbrev pub is_open : ℕ → List Entry → Bool
is_open n past = is_sent n past && not (is_metadata_ended n past && all_settled n past)

-- frame n was open and isn't any more
abbrev pub is_done : ℕ → List Entry → Bool
is_done n past = is_sent n past && (is_metadata_ended n past && all_settled n past)

-- how many frames are open
abbrev pub open_count : List Entry → ℕ
open_count past = length (filter (λ n. is_open n past) (frames past))

-- no frame is open
abbrev pub is_quiet : List Entry → Bool
is_quiet past = list_all (λ n. not (is_open n past)) (frames past)

-- something of frame n stands: a partial result, a buffer or an error
abbrev pub has_something : ℕ → List Entry → Bool
has_something n past = list_any (is_partial n) past || (list_any (returns_of_frame n) past || has_error n past)
