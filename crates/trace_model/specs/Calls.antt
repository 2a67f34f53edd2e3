use Rattle.std.specs.Prelude.{ℕ, ◌==◌, Bool, true, false, ◌&&◌, not, List, [], ◌∷◌, Option, Some, None, count_by, slice_get, if◌then◌else◌}
use Rattle.std.specs.List.{list_any}
use Rattle.cam_types.specs.declared.item.Item.{Item}
use Rattle.cam_types.specs.declared.reply.Reply.TheVariants.{Submitted}
use Rattle.cam_types.specs.declared.script.Command.{Command}
use Rattle.cam_types.specs.declared.script.Command.TheVariants.{Configure, Once, Burst, Repeat, Stop, Wait, Await, Flush, Close, Disconnect}
use Rattle.cam_types.specs.declared.script.Script.{Script}
use Rattle.cam_types.specs.declared.script.Word.{Word}
use Rattle.cam_types.specs.declared.script.Word.TheVariants.{Configure as WordConfigure, Once as WordOnce, Burst as WordBurst, Repeat as WordRepeat, Stop as WordStop, Wait as WordWait, Await as WordAwait, Flush as WordFlush, Close as WordClose, Disconnect as WordDisconnect}
use Rattle.trace_model.specs.declared.entry.Entry.{Entry}
use Rattle.trace_model.specs.declared.entry.Entry.TheVariants.{Begin, Call}
use Rattle.trace_model.specs.Entry.{is_refusal}
use Rattle.trace_model.specs.Numbers.{call_count}

-- The client's commands are called in the order of the script; which of them were accepted is read from the replies.
-- A call is accepted where its reply isn't a refusal.

abbrev pub word_of : Command → Word
word_of (Configure _) = WordConfigure
word_of (Once _) = WordOnce
word_of (Burst _) = WordBurst
word_of (Repeat _) = WordRepeat
word_of Stop = WordStop
word_of Wait = WordWait
word_of (Await _) = WordAwait
word_of Flush = WordFlush
word_of Close = WordClose
word_of Disconnect = WordDisconnect

abbrev pub command_at : Script → ℕ → Option Command
command_at script i = slice_get script.commands i

-- the command that is called next
abbrev pub next_command : Script → List Entry → Option Command
next_command script past = command_at script (call_count past)

-- the waiting commands, which begin before they are answered
abbrev pub is_waiting_command : Command → Bool
is_waiting_command (Configure _) = true
is_waiting_command Wait = true
is_waiting_command (Await _) = true
is_waiting_command Flush = true
is_waiting_command Close = true
is_waiting_command Disconnect = true
is_waiting_command _ = false

-- the word of the command that has begun and has no call yet
abbrev pub begun : List Entry → Option Word
begun [] = None
begun (Begin word ∷ past) = Some word
begun (Call _ _ _ ∷ past) = None
begun (_ ∷ past) = begun past

-- the items that a command submits
abbrev pub items_of : Option Command → List Item
items_of (Some (Once item)) = item ∷ []
items_of (Some (Burst items)) = items
items_of (Some (Repeat items)) = items
items_of _ = []

-- the entry accepts request r
abbrev pub submits : ℕ → Entry → Bool
submits r (Call _ _ (Submitted q)) = q.0 == r
submits r _ = false

abbrev pub is_submission : Entry → Bool
is_submission (Call _ _ (Submitted _)) = true
is_submission _ = false

-- how many requests were accepted, which is the number of the next
abbrev pub request_count : List Entry → ℕ
request_count past = count_by is_submission past

-- the command that was accepted as request r
abbrev pub command_of : Script → List Entry → ℕ → Option Command
command_of script [] r = None
command_of script (Call i _ (Submitted q) ∷ past) r = if q.0 == r then command_at script i else command_of script past r
command_of script (_ ∷ past) r = command_of script past r

-- item i of request r
abbrev pub item_at : Script → List Entry → ℕ → ℕ → Option Item
item_at script past r i = slice_get (items_of (command_of script past r)) i

abbrev pub is_repeat : Option Command → Bool
is_repeat (Some (Repeat _)) = true
is_repeat _ = false

-- request r is a repeating one
abbrev pub is_repeating : Script → List Entry → ℕ → Bool
is_repeating script past r = is_repeat (command_of script past r)

-- the entry accepts a command with the word
abbrev pub accepts : (Word → Bool) → Entry → Bool
accepts p (Call _ word reply) = not (is_refusal reply) && p word
accepts p _ = false

abbrev pub is_closing_word : Word → Bool
is_closing_word WordClose = true
is_closing_word WordDisconnect = true
is_closing_word _ = false

-- an accepted close or disconnect stands: the service is closed for good
abbrev pub is_closed : List Entry → Bool
is_closed past = list_any (accepts is_closing_word) past
