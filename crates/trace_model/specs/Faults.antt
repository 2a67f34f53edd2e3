use Rattle.std.specs.Prelude.{ℕ, ◌==◌, Bool, false, ◌&&◌}
use Rattle.std.specs.List.{list_any}
use Rattle.cam_types.specs.declared.script.Fault.{Fault}
use Rattle.cam_types.specs.declared.script.Fault.TheVariants.{Request, Result, Buffer, Device}
use Rattle.cam_types.specs.declared.script.Script.{Script}

-- The faults that a script gives the device (our own choice). A fault of a frame that is never sent has no effect.

abbrev pub fails_request : ℕ → Fault → Bool
fails_request n (Request m) = m.0 == n
fails_request n _ = false

abbrev pub fails_result : ℕ → Fault → Bool
fails_result n (Result m) = m.0 == n
fails_result n _ = false

abbrev pub fails_buffer : ℕ → ℕ → Fault → Bool
fails_buffer n s (Buffer m t) = (m.0 == n) && (t.0 == s)
fails_buffer n s _ = false

abbrev pub fails_device : ℕ → Fault → Bool
fails_device n (Device m) = m.0 == n
fails_device n _ = false

abbrev pub request_fault : Script → ℕ → Bool
request_fault script n = list_any (fails_request n) script.faults

abbrev pub result_fault : Script → ℕ → Bool
result_fault script n = list_any (fails_result n) script.faults

abbrev pub buffer_fault : Script → ℕ → ℕ → Bool
buffer_fault script n s = list_any (fails_buffer n s) script.faults

abbrev pub device_fault : Script → ℕ → Bool
device_fault script n = list_any (fails_device n) script.faults
