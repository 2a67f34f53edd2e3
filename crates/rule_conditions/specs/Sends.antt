use Rattle.std.specs.Prelude.{ℕ, ◌==◌, ◌+◌, Bool, true, false, ◌&&◌, ◌||◌, not, List, [], ◌∷◌, Option, Some, None, nat_lt}
use Rattle.std.specs.List.{list_any, list_all}
use Rattle.cam_types.specs.Four.{four_list}
use Rattle.cam_types.specs.Limits.{repeating_ahead}
use Rattle.cam_types.specs.declared.four.Four.{Four}
use Rattle.cam_types.specs.declared.request.Queued.{Queued}
use Rattle.cam_types.specs.declared.request.WaitingItem.{WaitingItem}
use Rattle.cam_types.specs.declared.script.Script.{Script}
use Rattle.trace_model.specs.declared.entry.Entry.{Entry}
use Rattle.trace_model.specs.declared.entry.Sent.{Sent}
use Rattle.trace_model.specs.Calls.{begun}
use Rattle.trace_model.specs.Configuration.{buffers_of}
use Rattle.trace_model.specs.Fence.{fence_of, is_same_fence}
use Rattle.trace_model.specs.Numbers.{next_number}
use Rattle.trace_model.specs.Open.{open_count}
use Rattle.trace_model.specs.Place.{Pool, place, is_at}
use Rattle.trace_model.specs.Printable.{is_filled}
use Rattle.trace_model.specs.Queue.{next, queued, first_in}
use Rattle.trace_model.specs.Send.{targets_in_order, are_streams, has_room, holds_back, repeated_since_call, awaited, mark_of, is_same_bool}
use Rattle.trace_model.specs.Stopping.{is_stopping}
use Rattle.rule_conditions.specs.declared.condition.Condition.{Condition}
use Rattle.rule_conditions.specs.declared.condition.Condition.TheVariants.{SendNextNumber, SendNextItem, SendNothingStops, SendFromPool, SendFenceOfBuffer, SendStreamsOfItem, SendBelowDepth, SendBelowMaxBuffers, SendNothingHoldsBack, SendNotTooFarAhead, SendMark, DropSomethingStops, DropNextNumber, DropFirstOfQueue}

-- The conditions of a send and of a drop (docs/CONTRACT.md, D9 and D10; camera3.h, process_capture_request and flush).

abbrev pub send_conditions : List Condition
send_conditions =
    SendNextNumber ∷ SendNextItem ∷ SendNothingStops ∷ SendFromPool ∷ SendFenceOfBuffer ∷ SendStreamsOfItem
    ∷ SendBelowDepth ∷ SendBelowMaxBuffers ∷ SendNothingHoldsBack ∷ SendNotTooFarAhead ∷ SendMark ∷ []

-- item i of request r is the next one
abbrev pub is_next_item : Option Queued → ℕ → ℕ → Bool
is_next_item (Some next) r i = (r == next.request.0) && (i == next.index)
is_next_item None r i = false

-- the target's buffer is one of its stream's, and is in the pool
abbrev pub is_from_pool : List Entry → Sent → Bool
is_from_pool past t =
    list_any (λ b. b == t.buffer.0) (buffers_of past t.stream.0) && is_at (place t.buffer.0 past) Pool

-- the target has the fence that its buffer has there
abbrev pub has_its_fence : List Entry → Sent → Bool
has_its_fence past t = is_same_fence t.fence (fence_of t.buffer.0 past)

-- the test holds of the next item, where there is one
abbrev pub of_next : Option Queued → (Queued → Bool) → Bool
of_next (Some next) p = p next
of_next None p = true

-- the targets are the item's streams, in ascending order, with no gap between them
abbrev pub are_of_item : Four Sent → Queued → Bool
are_of_item targets next = is_filled targets && are_streams (four_list targets) (targets_in_order next.item)

abbrev pub send_holds : Condition → Script → List Entry → ℕ → ℕ → ℕ → Bool → Four Sent → Bool
send_holds SendNextNumber script past n r i same targets = n == next_number past
send_holds SendNextItem script past n r i same targets = is_next_item (next script past) r i
send_holds SendNothingStops script past n r i same targets = not (is_stopping past)
send_holds SendFromPool script past n r i same targets = list_all (is_from_pool past) (four_list targets)
send_holds SendFenceOfBuffer script past n r i same targets = list_all (has_its_fence past) (four_list targets)
send_holds SendStreamsOfItem script past n r i same targets = of_next (next script past) (are_of_item targets)
send_holds SendBelowDepth script past n r i same targets = nat_lt (open_count past) script.profile.depth
send_holds SendBelowMaxBuffers script past n r i same targets =
    list_all (λ t. has_room script past t.stream.0) (four_list targets)
send_holds SendNothingHoldsBack script past n r i same targets =
    of_next (next script past) (λ next. not next.repeating || not (holds_back (begun past)))
send_holds SendNotTooFarAhead script past n r i same targets =
    of_next (next script past)
    (λ next. not next.repeating || nat_lt (repeated_since_call script past) (repeating_ahead + awaited script past))
send_holds SendMark script past n r i same targets =
    of_next (next script past) (λ next. is_same_bool same (mark_of script past next.item.settings))
send_holds _ script past n r i same targets = true

-- ---- drops

abbrev pub drop_conditions : List Condition
drop_conditions = DropSomethingStops ∷ DropNextNumber ∷ DropFirstOfQueue ∷ []

-- item i of request r is the first of the queue
abbrev pub is_first_item : Option WaitingItem → ℕ → ℕ → Bool
is_first_item (Some w) r i = (r == w.request.0) && (i == w.index)
is_first_item None r i = false

abbrev pub drop_holds : Condition → Script → List Entry → ℕ → ℕ → ℕ → Bool
drop_holds DropSomethingStops script past n r i = is_stopping past
drop_holds DropNextNumber script past n r i = n == next_number past
drop_holds DropFirstOfQueue script past n r i = is_first_item (first_in (queued script past)) r i
drop_holds _ script past n r i = true
