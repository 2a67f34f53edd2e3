use Rattle.std.specs.Prelude.{Bool, not, List, Option, find}
use Rattle.cam_types.specs.declared.script.Script.{Script}
use Rattle.trace_model.specs.declared.entry.Entry.{Entry}
use Rattle.trace_model.specs.declared.entry.Entry.TheVariants.{Begin, Call, Send, Dropped, Shutter, Partial, Filled, Failed, ErrorRequest, ErrorResult, ErrorBuffer, ErrorDevice, Release, Signal, Early, Late}
use Rattle.rule_conditions.specs.declared.condition.Condition.{Condition}
use Rattle.rule_conditions.specs.Client.{release_conditions, release_holds, signal_conditions, signal_holds, begin_conditions, begin_holds, call_conditions, call_holds}
use Rattle.rule_conditions.specs.Errors.{request_error_conditions, request_error_holds, result_error_conditions, result_error_holds, buffer_error_conditions, buffer_error_holds, device_error_conditions, device_error_holds}
use Rattle.rule_conditions.specs.Results.{shutter_conditions, shutter_holds, partial_conditions, partial_holds}
use Rattle.rule_conditions.specs.Returns.{filled_conditions, filled_holds, early_conditions, early_holds, late_conditions, late_holds, failed_conditions, failed_holds}
use Rattle.rule_conditions.specs.Sends.{send_conditions, send_holds, drop_conditions, drop_holds}

-- What an entry has to meet, condition by condition (docs/CONTRACT.md, What each entry needs). A past is the entries so
-- far, the newest first.

-- the conditions of an entry, in the order of the document
abbrev pub conditions_of : Entry → List Condition
conditions_of (Begin _) = begin_conditions
conditions_of (Call _ _ _) = call_conditions
conditions_of (Send _ _ _ _ _) = send_conditions
conditions_of (Dropped _ _ _) = drop_conditions
conditions_of (Shutter _ _) = shutter_conditions
conditions_of (Partial _ _ _) = partial_conditions
conditions_of (Filled _ _ _ _ _) = filled_conditions
conditions_of (Failed _ _ _ _) = failed_conditions
conditions_of (ErrorRequest _) = request_error_conditions
conditions_of (ErrorResult _) = result_error_conditions
conditions_of (ErrorBuffer _ _) = buffer_error_conditions
conditions_of ErrorDevice = device_error_conditions
conditions_of (Release _ _) = release_conditions
conditions_of (Signal _) = signal_conditions
conditions_of (Early _ _ _ _) = early_conditions
conditions_of (Late _ _) = late_conditions

-- the entry meets the condition after the past; each meets those that aren't its own
abbrev pub holds : Script → List Entry → Entry → Condition → Bool
holds script past (Begin word) c = begin_holds c script past word
holds script past (Call i word reply) c = call_holds c script past i word reply
holds script past (Send n r i same targets) c = send_holds c script past n.0 r.0 i same targets
holds script past (Dropped n r i) c = drop_holds c script past n.0 r.0 i
holds script past (Shutter n time) c = shutter_holds c script past n.0 time
holds script past (Partial n k part) c = partial_holds c script past n.0 k part
holds script past (Filled n s b f digest) c = filled_holds c script past n.0 s.0 b.0 f digest
holds script past (Failed n s b f) c = failed_holds c past n.0 s.0 b.0 f
holds script past (ErrorRequest n) c = request_error_holds c script past n.0
holds script past (ErrorResult n) c = result_error_holds c script past n.0
holds script past (ErrorBuffer n s) c = buffer_error_holds c script past n.0 s.0
holds script past ErrorDevice c = device_error_holds c script past
holds script past (Release b f) c = release_holds c past b.0 f.0
holds script past (Signal f) c = signal_holds c past f.0
holds script past (Early n s b d) c = early_holds c script past n.0 s.0 b.0 d.0
holds script past (Late d digest) c = late_holds c script past d.0 digest

-- the first condition, in the document's order, that the entry doesn't meet
abbrev pub first_failed : Script → List Entry → Entry → Option Condition
first_failed script past e = find (λ c. not (holds script past e c)) (conditions_of e)
