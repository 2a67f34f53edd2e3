-- Of a frame that isn't sent nothing stands in a legal past.
use Rattle.std.proofs.Common.{◌≡◌, ℕ, false, List, None}
use Rattle.cam_types.specs.declared.script.Script.{Script}
use Rattle.trace_model.specs.declared.entry.Entry.{Entry}
use Rattle.trace_model.specs.Entry.{is_error_buffer, is_error_request, is_error_result, is_partial, returns_target}
use Rattle.trace_model.specs.Frames.{has_error_request, is_sent, shutter_time}
use Rattle.trace_model.specs.Legal.{IsLegal}
use Rattle.trace_model.specs.Open.{has_error_buffer, has_error_result, is_returned}
use Rattle.trace_model.specs.Partial.{partial_count}
use Rattle.trace_model.specs.Stopping.{is_stopped}
use Rattle.basic_lemmas.proofs.Counts.{none-counted}
use Rattle.trace_laws.proofs.Told.{not-stopped, buffer-tells, no-time, none-of, partial-tells, request-tells, result-tells, return-tells, untold}

pub record IsNew (past : List Entry) (n : ℕ) : Type 0 where
  pub shutter : shutter_time n past ≡ None
  pub parts : partial_count n past ≡ 0
  pub request : has_error_request n past ≡ false
  pub result : has_error_result n past ≡ false
  pub stopped : is_stopped n past ≡ false
  pub buffers : (s : ℕ) → has_error_buffer n s past ≡ false
  pub returned : (s : ℕ) → is_returned n s past ≡ false

pub unsent : (script : Script) (past : List Entry) (n : ℕ) → IsLegal script past → is_sent n past ≡ false → IsNew past n
unsent script past n legal h =
    record {
      shutter = no-time n past (untold script past n legal h);
      parts = none-counted (is_partial n) past (none-of script past n (is_partial n) legal h (partial-tells n));
      request = none-of script past n (is_error_request n) legal h (request-tells n);
      result = none-of script past n (is_error_result n) legal h (result-tells n);
      stopped = not-stopped n past h;
      buffers = λ s. none-of script past n (is_error_buffer n s) legal h (buffer-tells n s);
      returned = λ s. none-of script past n (returns_target n s) legal h (return-tells n s);
    }
