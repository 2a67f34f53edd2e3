use Rattle.std.specs.Prelude.{◌+◌, ◌||◌, Bool, true, false, not, List, nat_lt}
use Rattle.cam_types.specs.Limits.{repeating_ahead}
use Rattle.cam_types.specs.declared.four.Four.{Four}
use Rattle.cam_types.specs.declared.request.Queued.{Queued}
use Rattle.cam_types.specs.declared.script.Command.{Command}
use Rattle.cam_types.specs.declared.script.Script.{Script}
use Rattle.trace_model.specs.declared.entry.Entry.{Entry}
use Rattle.trace_model.specs.declared.entry.Entry.TheVariants.{Filled, Failed, Early, Late}
use Rattle.trace_model.specs.declared.entry.Sent.{Sent}
use Rattle.trace_model.specs.Calls.{begun}
use Rattle.trace_model.specs.Client.{is_empty}
use Rattle.trace_model.specs.Open.{is_quiet}
use Rattle.trace_model.specs.Place.{all_in_pool}
use Rattle.trace_model.specs.Queue.{queued}
use Rattle.trace_model.specs.Send.{awaited, has_room, holds_back, is_same_bool, mark_of, repeated_since_call}
use Rattle.rule_conditions.specs.declared.condition.Condition.{Condition}
use Rattle.rule_conditions.specs.declared.condition.Condition.TheVariants.{SendFromPool, SendFenceOfBuffer, SendStreamsOfItem, SendBelowMaxBuffers, SendNothingHoldsBack, SendNotTooFarAhead, SendMark, PictureOfFrame, LatePictureOfFrame, CallNoFrameOpen, CallQueueEmpty, CallAllInPool, CallAwaitedFrames}
use Rattle.rule_conditions.specs.Client.{has_awaited, waits_for_idle, waits_for_pool}
use Rattle.rule_conditions.specs.Sends.{are_of_item, has_its_fence, is_from_pool}

-- Parts of the conditions, as the code asks them (our own choice): what is asked of a target, of the next item and of a
-- command. Each is proved to be the condition itself.

-- of one target of a send
abbrev pub target_holds : Condition → Script → List Entry → Sent → Bool
target_holds SendFromPool script past t = is_from_pool past t
target_holds SendFenceOfBuffer script past t = has_its_fence past t
target_holds SendBelowMaxBuffers script past t = has_room script past t.stream.0
target_holds _ script past t = true

-- of the next item
abbrev pub next_holds : Condition → Script → List Entry → Bool → Four Sent → Queued → Bool
next_holds SendStreamsOfItem script past same targets next = are_of_item targets next
next_holds SendNothingHoldsBack script past same targets next = not next.repeating || not (holds_back (begun past))
next_holds SendNotTooFarAhead script past same targets next =
    not next.repeating || nat_lt (repeated_since_call script past) (repeating_ahead + awaited script past)
next_holds SendMark script past same targets next = is_same_bool same (mark_of script past next.item.settings)
next_holds _ script past same targets next = true

-- of a command that is accepted
abbrev pub over_holds : Condition → Script → List Entry → Command → Bool
over_holds CallNoFrameOpen script past c = not (waits_for_idle c) || is_quiet past
over_holds CallQueueEmpty script past c = not (waits_for_idle c) || is_empty (queued script past)
over_holds CallAllInPool script past c = not (waits_for_pool c) || all_in_pool past
over_holds CallAwaitedFrames script past c = has_awaited script past c
over_holds _ script past c = true

-- ---- pictures

abbrev pub is_plain : Condition → Bool
is_plain PictureOfFrame = false
is_plain _ = true

abbrev pub is_plain_late : Condition → Bool
is_plain_late LatePictureOfFrame = false
is_plain_late _ = true

-- whether the entry meets the condition is told without drawing its picture
abbrev pub is_known : Entry → Condition → Bool
is_known (Filled _ _ _ _ _) c = is_plain c
is_known (Late _ _) c = is_plain_late c
is_known _ c = true

-- the entry gives a buffer or its picture
abbrev pub is_return : Entry → Bool
is_return (Filled _ _ _ _ _) = true
is_return (Failed _ _ _ _) = true
is_return (Early _ _ _ _) = true
is_return (Late _ _) = true
is_return _ = false
