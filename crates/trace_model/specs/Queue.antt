use Rattle.std.specs.Prelude.{ℕ, ◌+◌, ◌%◌, Bool, true, false, not, List, [], ◌∷◌, ◌++◌, Option, Some, None, count_by, filter, length, slice_get, if◌then◌else◌}
use Rattle.std.specs.List.{list_any}
use Rattle.cam_types.specs.declared.item.Item.{Item}
use Rattle.cam_types.specs.Requests.{Repeating}
use Rattle.cam_types.specs.declared.number.RequestId.{RequestId}
use Rattle.cam_types.specs.declared.request.Queued.{Queued}
use Rattle.cam_types.specs.declared.request.WaitingItem.{WaitingItem}
use Rattle.cam_types.specs.declared.reply.Reply.{Reply}
use Rattle.cam_types.specs.declared.reply.Reply.TheVariants.{Submitted}
use Rattle.cam_types.specs.declared.script.Command.{Command}
use Rattle.cam_types.specs.declared.script.Command.TheVariants.{Once, Burst, Repeat}
use Rattle.cam_types.specs.declared.script.Script.{Script}
use Rattle.cam_types.specs.declared.script.Word.{Word}
use Rattle.cam_types.specs.declared.script.Word.TheVariants.{Configure as WordConfigure, Repeat as WordRepeat, Stop as WordStop, Flush as WordFlush, Close as WordClose, Disconnect as WordDisconnect}
use Rattle.trace_model.specs.declared.entry.Entry.{Entry}
use Rattle.trace_model.specs.declared.entry.Entry.TheVariants.{Call}
use Rattle.trace_model.specs.Calls.{command_at}
use Rattle.trace_model.specs.Entry.{takes, sends_for, is_refusal}

-- What is to be captured next (camera3.h, S2: the framework sends a steady stream of requests; the queue and the
-- repeating list are our own choice).

-- items as a request's, from place i on
abbrev pub named : RequestId → ℕ → List Item → List WaitingItem
named r i [] = []
named r i (item ∷ items) = record { request = r; index = i; item = item } ∷ named r (i + 1) items

-- what an accepted once or burst puts into the queue
abbrev pub queued_items : Option Command → List Item
queued_items (Some (Once item)) = item ∷ []
queued_items (Some (Burst items)) = items
queued_items _ = []

abbrev pub puts : Script → Entry → List WaitingItem
puts script (Call i _ (Submitted r)) = named r 0 (queued_items (command_at script i))
puts script _ = []

-- all that was ever put into the queue, in order of calls and places
abbrev pub submitted : Script → List Entry → List WaitingItem
submitted script [] = []
submitted script (e ∷ past) = submitted script past ++ puts script e

-- a send or a drop names the item
abbrev pub is_taken : List Entry → WaitingItem → Bool
is_taken past w = list_any (takes w.request.0 w.index) past

-- the queue: what was put in, without what a send or a drop names
abbrev pub queued : Script → List Entry → List WaitingItem
queued script past = filter (λ w. not (is_taken past w)) (submitted script past)

abbrev pub repeating_of : Option Command → RequestId → Option Repeating
repeating_of (Some (Repeat items)) r = Some (record { request = r; items = items })
repeating_of _ r = None

-- an accepted stop, flush, configure, close or disconnect clears the repeating list
abbrev pub is_clearing_word : Word → Bool
is_clearing_word WordStop = true
is_clearing_word WordFlush = true
is_clearing_word WordConfigure = true
is_clearing_word WordClose = true
is_clearing_word WordDisconnect = true
is_clearing_word _ = false

abbrev pub is_repeat_word : Word → Bool
is_repeat_word WordRepeat = true
is_repeat_word _ = false

abbrev pub request_in : Reply → RequestId
request_in (Submitted r) = r
request_in _ = record { 0 = 0 }

-- the repeating list: it stands where the last accepted command that sets or clears it is a repeat
abbrev pub repeating : Script → List Entry → Option Repeating
repeating script [] = None
repeating script (Call i word reply ∷ past) =
    if is_refusal reply then repeating script past
    else (if is_repeat_word word then repeating_of (command_at script i) (request_in reply)
    else (if is_clearing_word word then None else repeating script past))
repeating script (_ ∷ past) = repeating script past

abbrev pub first_in : List WaitingItem → Option WaitingItem
first_in [] = None
first_in (w ∷ _) = Some w

-- how many items of request r were sent
abbrev pub sent_for : ℕ → List Entry → ℕ
sent_for r past = count_by (sends_for r) past

abbrev pub next_at : RequestId → ℕ → Option Item → Option Queued
next_at r i (Some item) = Some (record { request = r; index = i; item = item; repeating = true })
next_at r i None = None

-- the repeating list's item in turn: the list is sent as a cycle
abbrev pub next_repeating : Option Repeating → List Entry → Option Queued
next_repeating None past = None
next_repeating (Some r) past =
    let i = sent_for r.request.0 past % length r.items in next_at r.request i (slice_get r.items i)

abbrev pub next_from : Option WaitingItem → Option Queued → Option Queued
next_from (Some w) other = Some (record { request = w.request; index = w.index; item = w.item; repeating = false })
next_from None other = other

-- the next item: the first of the queue, or where it is empty the repeating list's
abbrev pub next : Script → List Entry → Option Queued
next script past = next_from (first_in (queued script past)) (next_repeating (repeating script past) past)
