use Rattle.std.specs.Prelude.{ℕ, ◌+◌, ◌%◌, Bool, false, List, [], ◌∷◌, ◌++◌, Option, Some, None, length, slice_get, if◌then◌else◌}
use Rattle.cam_types.specs.declared.item.Item.{Item}
use Rattle.cam_types.specs.declared.item.Settings.{Settings}
use Rattle.cam_types.specs.declared.number.RequestId.{RequestId}
use Rattle.cam_types.specs.declared.reply.Reply.{Reply}
use Rattle.cam_types.specs.declared.reply.Reply.TheVariants.{Submitted}
use Rattle.cam_types.specs.declared.script.Command.{Command}
use Rattle.cam_types.specs.declared.script.Command.TheVariants.{Repeat}
use Rattle.cam_types.specs.declared.script.Script.{Script}
use Rattle.cam_types.specs.declared.script.Word.{Word}
use Rattle.trace_model.specs.declared.entry.Entry.{Entry}
use Rattle.trace_model.specs.declared.entry.Entry.TheVariants.{Call, Send, Dropped}
use Rattle.trace_model.specs.Calls.{command_at, request_count}
use Rattle.trace_model.specs.Entry.{is_refusal}
use Rattle.trace_model.specs.Frames.{no_settings}
use Rattle.trace_model.specs.Numbers.{next_number}
use Rattle.trace_model.specs.Queue.{first_in, is_clearing_word, is_repeat_word, next_at, next_from, puts, queued, repeating, request_in, sent_for}
use Rattle.cam_types.specs.Requests.{Repeating}
use Rattle.cam_types.specs.declared.request.Queued.{Queued}
use Rattle.cam_types.specs.declared.request.WaitingItem.{WaitingItem}

-- What is to be captured next, as a small state (the queue and the list that repeats are our own choice).

-- a list that repeats: the request that it was accepted as, its items, and the place of the item whose turn it is
pub record Turn : Type 0 where
  pub request : RequestId
  pub items : List Item
  pub place : ℕ

-- the items that wait, the list that repeats, and the numbers of the next frame and of the next request
pub record Turns : Type 0 where
  pub waiting : List WaitingItem
  pub turn : Option Turn
  pub numbers : ℕ
  pub requests : ℕ

-- of a service that was just opened
abbrev pub no_turns : Turns
no_turns = record { waiting = []; turn = None; numbers = 0; requests = 0 }

-- ---- the state that a past leaves

-- the list that repeats: it is sent as a cycle, so its turn is how many of its items were sent
abbrev pub placed : List Entry → Option Repeating → Option Turn
placed past (Some r) =
    Some (record { request = r.request; items = r.items; place = sent_for r.request.0 past % length r.items })
placed past None = None

-- the items that wait, the list that repeats and the numbers, as a past leaves them
abbrev pub turns : Script → List Entry → Turns
turns script past = record {
  waiting = queued script past;
  turn = placed past (repeating script past);
  numbers = next_number past;
  requests = request_count past;
}

-- ---- what each entry does to the state

-- what is left once the first item is sent or dropped
abbrev pub tail : {X : Type 0} → List X → List X
tail [] = []
tail (x ∷ xs) = xs

-- the turn of the next item of the list
abbrev pub moved : Option Turn → Option Turn
moved (Some q) = Some (record q { place = (q.place + 1) % length q.items })
moved None = None

-- the list's turn moves on where nothing waits
abbrev pub turn_sent : List WaitingItem → Option Turn → Option Turn
turn_sent [] q = moved q
turn_sent (_ ∷ _) q = q

-- the list that a repeat accepted as request r sets, at its first item
abbrev pub turn_of : Option Command → RequestId → Option Turn
turn_of (Some (Repeat items)) r = Some (record { request = r; items = items; place = 0 })
turn_of _ r = None

-- an accepted repeat sets the list, an accepted stop, flush, configure, close or disconnect clears it
abbrev pub turn_called : Script → ℕ → Word → Reply → Option Turn → Option Turn
turn_called script i word reply q =
    if is_refusal reply then q
    else (if is_repeat_word word then turn_of (command_at script i) (request_in reply)
    else (if is_clearing_word word then None else q))

-- the number of the next request, once one is accepted
abbrev pub request_after : Reply → ℕ → ℕ
request_after (Submitted r) old = r.0 + 1
request_after _ old = old

-- the state after an entry: what is accepted waits, what is sent or dropped doesn't, and each number is the entry's own
abbrev pub turns_after : Script → Entry → Turns → Turns
turns_after script (Call i word reply) t = record t {
  waiting = t.waiting ++ puts script (Call i word reply);
  turn = turn_called script i word reply t.turn;
  requests = request_after reply t.requests;
}
turns_after script (Send n _ _ _ _) t =
    record t { waiting = tail t.waiting; turn = turn_sent t.waiting t.turn; numbers = n.0 + 1 }
turns_after script (Dropped n _ _) t = record t { waiting = tail t.waiting; numbers = n.0 + 1 }
turns_after script _ t = t

-- ---- what is read from it

-- the item of the list whose turn it is
abbrev pub next_in_turn : Option Turn → Option Queued
next_in_turn (Some q) = next_at q.request q.place (slice_get q.items q.place)
next_in_turn None = None

-- the next item: the first that waits, or where none does the list's
abbrev pub next_of : Turns → Option Queued
next_of t = next_from (first_in t.waiting) (next_in_turn t.turn)

-- the settings of the next item
abbrev pub settings_next : Option Queued → Settings
settings_next (Some w) = w.item.settings
settings_next None = no_settings

-- the next item is of the list that repeats
abbrev pub repeats_next : Option Queued → Bool
repeats_next (Some w) = w.repeating
repeats_next None = false
