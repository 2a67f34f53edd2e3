use Rattle.std.specs.Prelude.{◌+◌, Bool, true, ◌&&◌, ◌||◌, not, List, [], ◌∷◌, Option, Some, None, nat_le, nat_lt, length, is_some, if◌then◌else◌}
use Rattle.cam_types.specs.declared.item.Item.{Item}
use Rattle.cam_types.specs.declared.reply.Reply.{Reply}
use Rattle.cam_types.specs.declared.reply.Reply.TheVariants.{Ok, Submitted, Configured}
use Rattle.cam_types.specs.declared.script.Command.{Command}
use Rattle.cam_types.specs.declared.script.Command.TheVariants.{Configure, Once, Burst, Repeat, Stop, Wait, Await, Flush, Close, Disconnect}
use Rattle.cam_types.specs.declared.script.Script.{Script}
use Rattle.trace_model.specs.declared.entry.Entry.{Entry}
use Rattle.trace_model.specs.declared.entry.Entry.TheVariants.{Begin, Call}
use Rattle.trace_model.specs.Calls.{command_at, is_closing_word, is_waiting_command, word_of}
use Rattle.trace_model.specs.Client.{is_empty}
use Rattle.trace_model.specs.Entry.{is_refusal}
use Rattle.trace_model.specs.Reply.{is_configure_command, made_for, reply_with}
use Rattle.cam_types.specs.Limits.{queue_limit, repeating_ahead}
use Rattle.cam_types.specs.Refusals.{refused, or_else, where_true, items_refusal, list_refusal, specs_refusal}
use Rattle.trace_model.specs.Send.{awaited_in, holds_back}
use Rattle.cam_types.specs.Four.{four_of}
use Rattle.trace_model.specs.Stopping.{stops_by}
use Rattle.state_facts.specs.Turns.{Turns}
use Rattle.state_facts.specs.Homes.{Homes, all_home}
use Rattle.cam_types.specs.declared.script.Word.{Word}
use Rattle.state_facts.specs.Clients.{Clients}

-- What is due of the client, read from its state, the queue's and the buffers'. `quiet` is what the frames say.

-- the service is stopping: a flush or a disconnect has begun, or the device failed
abbrev pub stopping_in : Clients → Bool
stopping_in t = stops_by t.begun || t.failed

-- the begin of the next command: it waits and nothing has begun
abbrev pub begin_with : Option Word → Option Command → Option Entry
begin_with begun (Some c) = if is_waiting_command c && not (is_some begun) then Some (Begin (word_of c)) else None
begin_with begun None = None

-- the begin that is due
abbrev pub begin_in : Script → Clients → Option Entry
begin_in script t = begin_with t.begun (command_at script t.calls)

-- ---- replies

-- the refusal of the state: 2 after a close, 3 after a failure of the device, 1 before a configuration
abbrev pub state_refusal_in : Clients → Command → Option Reply
state_refusal_in t c =
    if t.closed then Some (refused 2)
    else (if is_closing_word (word_of c) then None
    else (if t.failed then Some (refused 3)
    else where_true (not (is_configure_command c) && not t.configured) (refused 1)))

-- the refusal of items for which the queue has no room: 11
abbrev pub queue_refusal_in : Turns → List Item → Option Reply
queue_refusal_in q items = where_true (nat_lt queue_limit (length q.waiting + length items)) (refused 11)

-- the refusal of the command's own: of its streams, its items, or what repeats or doesn't
abbrev pub own_refusal_in : Clients → Turns → Command → Option Reply
own_refusal_in t q (Configure specs) = specs_refusal specs
own_refusal_in t q (Once item) =
    or_else (items_refusal (length t.streams) 0 (item ∷ [])) (queue_refusal_in q (item ∷ []))
own_refusal_in t q (Burst items) = or_else (list_refusal (length t.streams) items) (queue_refusal_in q items)
own_refusal_in t q (Repeat items) = list_refusal (length t.streams) items
own_refusal_in t q Stop = where_true (not (is_some q.turn)) (refused 9)
own_refusal_in t q (Await _) = where_true (not (is_some q.turn)) (refused 9)
own_refusal_in t q Wait = where_true (is_some q.turn) (refused 10)
own_refusal_in t q _ = None

-- the reply to a command that is accepted
abbrev pub acceptance_in : Script → Turns → Homes → Command → Reply
acceptance_in script q h (Configure specs) =
    Configured (four_of (made_for script.profile (h.first + length h.places) specs))
acceptance_in script q h (Once _) = Submitted (record { 0 = q.requests })
acceptance_in script q h (Burst _) = Submitted (record { 0 = q.requests })
acceptance_in script q h (Repeat _) = Submitted (record { 0 = q.requests })
acceptance_in script q h _ = Ok

-- the reply to a command: the first refusal whose condition holds, or the acceptance
abbrev pub reply_in : Script → Clients → Turns → Homes → Command → Reply
reply_in script t q h c =
    reply_with (or_else (state_refusal_in t c) (own_refusal_in t q c)) (acceptance_in script q h c)

-- ---- calls

-- nothing is in process and nothing waits
abbrev pub idle_in : Bool → Turns → Bool
idle_in quiet q = quiet && is_empty q.waiting

-- what an accepted command waits for is there
abbrev pub over_in : Bool → Clients → Turns → Homes → Command → Bool
over_in quiet t q h Flush = idle_in quiet q
over_in quiet t q h Disconnect = idle_in quiet q
over_in quiet t q h (Configure _) = idle_in quiet q && all_home h
over_in quiet t q h Wait = idle_in quiet q && all_home h
over_in quiet t q h Close = idle_in quiet q && all_home h
over_in quiet t q h (Await k) = nat_le k t.done
over_in quiet t q h _ = true

-- the command is answered: it has begun, if it waits, and what it waits for is there, or it is refused
abbrev pub may_answer_in : Script → Bool → Clients → Turns → Homes → Command → Bool
may_answer_in script quiet t q h c =
    (not (is_waiting_command c) || is_some t.begun) && (is_refusal (reply_in script t q h c) || over_in quiet t q h c)

-- the call of the next command
abbrev pub call_with : Script → Bool → Clients → Turns → Homes → Option Command → Option Entry
call_with script quiet t q h (Some c) =
    if may_answer_in script quiet t q h c then Some (Call t.calls (word_of c) (reply_in script t q h c)) else None
call_with script quiet t q h None = None

-- the call that is due
abbrev pub call_in : Script → Bool → Clients → Turns → Homes → Option Entry
call_in script quiet t q h = call_with script quiet t q h (command_at script t.calls)

-- ---- what holds repeating items back

-- an item of the list may be sent: no begun command holds it back, and so many more were not sent since the last call
abbrev pub may_repeat_in : Script → Clients → Bool
may_repeat_in script t =
    not (holds_back t.begun) && nat_lt t.repeated (repeating_ahead + awaited_in t.begun (command_at script t.calls))
