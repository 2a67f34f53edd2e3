use Rattle.std.specs.Prelude.{ℕ, ◌+◌, Bool, true, false, ◌&&◌, not, List, [], ◌∷◌, Option, Some, None, nat_lt, length, is_some, if◌then◌else◌}
use Rattle.cam_types.specs.Limits.{queue_limit}
use Rattle.cam_types.specs.Profile.{pool_size}
use Rattle.cam_types.specs.Refusals.{items_refusal, list_refusal, or_else, refused, specs_refusal, where_true}
use Rattle.cam_types.specs.declared.item.Item.{Item}
use Rattle.cam_types.specs.declared.reply.Made.{Made}
use Rattle.cam_types.specs.declared.reply.Reply.{Reply}
use Rattle.cam_types.specs.declared.reply.Reply.TheVariants.{Ok, Submitted, Configured}
use Rattle.cam_types.specs.declared.script.Command.{Command}
use Rattle.cam_types.specs.declared.script.Command.TheVariants.{Configure, Once, Burst, Repeat, Stop, Wait, Await}
use Rattle.cam_types.specs.declared.profile.Profile.{Profile}
use Rattle.cam_types.specs.declared.script.Script.{Script}
use Rattle.cam_types.specs.declared.stream.StreamSpec.{StreamSpec}
use Rattle.trace_model.specs.declared.entry.Entry.{Entry}
use Rattle.trace_model.specs.Calls.{word_of, is_closing_word, is_closed, request_count}
use Rattle.trace_model.specs.Configuration.{streams, is_configured, made_count}
use Rattle.trace_model.specs.Queue.{queued, repeating}
use Rattle.cam_types.specs.Four.{four_of}
use Rattle.trace_model.specs.Stopping.{has_failed}

-- The reply to a command is a function of the past: the first refusal whose condition holds, else what accepting gives.
-- Numbers and order of the refusals are our own choice; that a failed device takes no call but close is camera3.h, S6,
-- and that a client reconfigures a configured device freely is its configure_streams.

-- ---- refused in the service's state: 2 Closed, 3 DeviceFailed, 1 NotConfigured

abbrev pub is_configure_command : Command → Bool
is_configure_command (Configure _) = true
is_configure_command _ = false

-- close and disconnect are refused only when closed; a configure needs no configuration
abbrev pub state_refusal : List Entry → Command → Option Reply
state_refusal past c =
    if is_closed past then Some (refused 2)
    else (if is_closing_word (word_of c) then None
    else (if has_failed past then Some (refused 3)
    else where_true (not (is_configure_command c) && not (is_configured past)) (refused 1)))

-- ---- refused where too many would wait

-- 11 QueueFull comes last: more than 256 would wait
abbrev pub queue_refusal : Script → List Entry → List Item → Option Reply
queue_refusal script past items =
    where_true (nat_lt queue_limit (length (queued script past) + length items)) (refused 11)

-- ---- all refusals of a command

-- 9 NotRepeating, 10 Repeating
abbrev pub own_refusal : Script → List Entry → Command → Option Reply
own_refusal script past (Configure specs) = specs_refusal specs
own_refusal script past (Once item) =
    or_else (items_refusal (length (streams script past)) 0 (item ∷ [])) (queue_refusal script past (item ∷ []))
own_refusal script past (Burst items) =
    or_else (list_refusal (length (streams script past)) items) (queue_refusal script past items)
own_refusal script past (Repeat items) = list_refusal (length (streams script past)) items
own_refusal script past Stop = where_true (not (is_some (repeating script past))) (refused 9)
own_refusal script past (Await _) = where_true (not (is_some (repeating script past))) (refused 9)
own_refusal script past Wait = where_true (is_some (repeating script past)) (refused 10)
own_refusal script past _ = None

abbrev pub refusal : Script → List Entry → Command → Option Reply
refusal script past c = or_else (state_refusal past c) (own_refusal script past c)

-- ---- accepted

-- the buffers of each stream, numbered on from the next unused number
abbrev pub made_for : Profile → ℕ → List StreamSpec → List Made
made_for p next [] = []
made_for p next (spec ∷ specs) =
    record { first = record { 0 = next }; count = pool_size p spec.format }
    ∷ made_for p (next + pool_size p spec.format) specs

abbrev pub acceptance : Script → List Entry → Command → Reply
acceptance script past (Configure specs) = Configured (four_of (made_for script.profile (made_count past) specs))
acceptance script past (Once _) = Submitted (record { 0 = request_count past })
acceptance script past (Burst _) = Submitted (record { 0 = request_count past })
acceptance script past (Repeat _) = Submitted (record { 0 = request_count past })
acceptance script past _ = Ok

abbrev pub reply_with : Option Reply → Reply → Reply
reply_with (Some r) accepted = r
reply_with None accepted = accepted

-- the reply to a command
abbrev pub reply : Script → List Entry → Command → Reply
reply script past c = reply_with (refusal script past c) (acceptance script past c)
