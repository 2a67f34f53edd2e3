use Rattle.std.specs.Prelude.{ℕ, ◌==◌, Bool, true, false, List, length, count_by}
use Rattle.trace_model.specs.declared.entry.Entry.{Entry}
use Rattle.trace_model.specs.declared.entry.Entry.TheVariants.{Send, Dropped, Partial, Filled, Failed, ErrorRequest, ErrorResult}
use Rattle.trace_model.specs.Entry.{is_call}

-- How much of each a trace has (our own choice).

abbrev pub is_send : Entry → Bool
is_send (Send _ _ _ _ _) = true
is_send _ = false

abbrev pub is_drop : Entry → Bool
is_drop (Dropped _ _ _) = true
is_drop _ = false

-- the last partial result of a frame
abbrev pub is_last_part : Entry → Bool
is_last_part (Partial _ k _) = k == 3
is_last_part _ = false

abbrev pub is_request_error : Entry → Bool
is_request_error (ErrorRequest _) = true
is_request_error _ = false

abbrev pub is_result_error : Entry → Bool
is_result_error (ErrorResult _) = true
is_result_error _ = false

abbrev pub is_filled_buffer : Entry → Bool
is_filled_buffer (Filled _ _ _ _ _) = true
is_filled_buffer _ = false

abbrev pub is_failed_buffer : Entry → Bool
is_failed_buffer (Failed _ _ _ _) = true
is_failed_buffer _ = false

-- calls, sent frames, dropped items, frames with all their metadata, errors of requests and of results, buffers that
-- came back filled and in error, and all entries; a buffer that came back early is counted among the entries alone
pub record Summary : Type 0 where
  pub commands : ℕ
  pub frames : ℕ
  pub dropped : ℕ
  pub results : ℕ
  pub request_errors : ℕ
  pub result_errors : ℕ
  pub buffers_ok : ℕ
  pub buffers_error : ℕ
  pub entries : ℕ

abbrev pub summary_of : List Entry → Summary
summary_of trace = record {
  commands = count_by is_call trace;
  frames = count_by is_send trace;
  dropped = count_by is_drop trace;
  results = count_by is_last_part trace;
  request_errors = count_by is_request_error trace;
  result_errors = count_by is_result_error trace;
  buffers_ok = count_by is_filled_buffer trace;
  buffers_error = count_by is_failed_buffer trace;
  entries = length trace;
}
