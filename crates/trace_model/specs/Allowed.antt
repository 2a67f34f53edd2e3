use Rattle.std.specs.Prelude.{◌≡◌, List, Some, IsTrue}
use Rattle.cam_types.specs.declared.script.Script.{Script}
use Rattle.trace_model.specs.declared.entry.Entry.{Entry}
use Rattle.trace_model.specs.declared.entry.Entry.TheVariants.{Begin, Call, Send, Dropped, Shutter, Partial, Filled, Failed, ErrorRequest, ErrorResult, ErrorBuffer, ErrorDevice, Release, Signal, Early, Late}
use Rattle.trace_model.specs.Client.{begin_due, call_due}
use Rattle.trace_model.specs.Drop.{drop_due}
use Rattle.trace_model.specs.Errors.{error_request_due, error_result_due, error_buffer_due, error_device_due, failed_due}
use Rattle.trace_model.specs.Filled.{early_due, filled_due, late_due}
use Rattle.trace_model.specs.Partial.{partial_due}
use Rattle.trace_model.specs.Release.{release_due, signal_due}
use Rattle.trace_model.specs.Send.{may_send}
use Rattle.trace_model.specs.Shutter.{shutter_due}

-- The entry is allowed after the past: it is the one of its kind that is due. Of a send the buffers are free.
abbrev pub IsAllowed : Script → List Entry → Entry → Type 0
IsAllowed script past (Begin word) = begin_due script past ≡ Some (Begin word)
IsAllowed script past (Call index word reply) = call_due script past ≡ Some (Call index word reply)
IsAllowed script past (Send n r i same targets) = IsTrue (may_send script past n.0 r.0 i same targets)
IsAllowed script past (Dropped n r i) = drop_due script past ≡ Some (Dropped n r i)
IsAllowed script past (Shutter n time) = shutter_due script past ≡ Some (Shutter n time)
IsAllowed script past (Partial n k part) = partial_due script past n.0 ≡ Some (Partial n k part)
IsAllowed script past (Filled n s b f digest) = filled_due script past n.0 s.0 ≡ Some (Filled n s b f digest)
IsAllowed script past (Failed n s b f) = failed_due past n.0 s.0 ≡ Some (Failed n s b f)
IsAllowed script past (ErrorRequest n) = error_request_due script past n.0 ≡ Some (ErrorRequest n)
IsAllowed script past (ErrorResult n) = error_result_due script past n.0 ≡ Some (ErrorResult n)
IsAllowed script past (ErrorBuffer n s) = error_buffer_due script past n.0 s.0 ≡ Some (ErrorBuffer n s)
IsAllowed script past ErrorDevice = error_device_due script past ≡ Some ErrorDevice
IsAllowed script past (Release b f) = release_due past b.0 ≡ Some (Release b f)
IsAllowed script past (Signal f) = signal_due past f.0 ≡ Some (Signal f)
IsAllowed script past (Early n s b d) = early_due script past n.0 s.0 ≡ Some (Early n s b d)
IsAllowed script past (Late d digest) = late_due script past d.0 ≡ Some (Late d digest)
