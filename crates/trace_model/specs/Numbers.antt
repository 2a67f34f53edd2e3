use Rattle.std.specs.Prelude.{ℕ, List, count_by}
use Rattle.trace_model.specs.declared.entry.Entry.{Entry}
use Rattle.trace_model.specs.Entry.{is_numbering, is_release, is_call, is_early}

-- Numbers are given in order: a frame number by each send and drop, a fence number by each release, the number
-- of a device fence by each early return, a place in the script by each call. (camera3.h,
-- camera3_capture_request.frame_number: set by the framework, raised by one, unique.)

abbrev pub next_number : List Entry → ℕ
next_number past = count_by is_numbering past

abbrev pub next_fence : List Entry → ℕ
next_fence past = count_by is_release past

abbrev pub call_count : List Entry → ℕ
call_count past = count_by is_call past

abbrev pub next_early : List Entry → ℕ
next_early past = count_by is_early past
