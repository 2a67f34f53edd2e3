use Rattle.std.specs.Prelude.{ℕ, Bool, true, false, ◌&&◌, ◌||◌, not, List, [], ◌∷◌, Option, Some, None, nat_le, filter, length, is_some, if◌then◌else◌}
use Rattle.cam_types.specs.declared.script.Command.{Command}
use Rattle.cam_types.specs.declared.script.Command.TheVariants.{Configure, Wait, Await, Flush, Close, Disconnect}
use Rattle.cam_types.specs.declared.script.Script.{Script}
use Rattle.trace_model.specs.declared.entry.Entry.{Entry}
use Rattle.trace_model.specs.declared.entry.Entry.TheVariants.{Begin, Call}
use Rattle.trace_model.specs.Calls.{begun, is_waiting_command, next_command, word_of}
use Rattle.trace_model.specs.Entry.{is_refusal}
use Rattle.trace_model.specs.Frames.{frames, is_repeating_frame}
use Rattle.trace_model.specs.Numbers.{call_count}
use Rattle.trace_model.specs.Open.{is_done, is_quiet}
use Rattle.trace_model.specs.Place.{all_in_pool}
use Rattle.trace_model.specs.Queue.{queued}
use Rattle.cam_types.specs.declared.request.WaitingItem.{WaitingItem}
use Rattle.trace_model.specs.Reply.{reply}

-- When a command begins and when it is answered (camera3.h, configure_streams: no capture in process and every buffer
-- back; flush returns when nothing is left in the device).

abbrev pub is_empty : List WaitingItem → Bool
is_empty [] = true
is_empty _ = false

-- nothing is in process and nothing is queued
abbrev pub is_idle : Script → List Entry → Bool
is_idle script past = is_quiet past && is_empty (queued script past)

-- the past before the last begin
abbrev pub before_begin : List Entry → List Entry
before_begin [] = []
before_begin (Begin _ ∷ past) = past
before_begin (_ ∷ past) = before_begin past

-- how many repeating frames were done with since the last begin
abbrev pub done_since_begin : Script → List Entry → ℕ
done_since_begin script past =
    length
    (filter (λ n. is_repeating_frame script past n && (is_done n past && not (is_done n (before_begin past))))
    (frames past))

-- what an accepted command waits for
abbrev pub is_over : Script → List Entry → Command → Bool
is_over script past Flush = is_idle script past
is_over script past Disconnect = is_idle script past
is_over script past (Configure _) = is_idle script past && all_in_pool past
is_over script past Wait = is_idle script past && all_in_pool past
is_over script past Close = is_idle script past && all_in_pool past
is_over script past (Await k) = nat_le k (done_since_begin script past)
is_over script past _ = true

abbrev pub begin_of : List Entry → Option Command → Option Entry
begin_of past (Some c) = if is_waiting_command c && not (is_some (begun past)) then Some (Begin (word_of c)) else None
begin_of past None = None

-- the begin that is due: the next command waits and hasn't begun
abbrev pub begin_due : Script → List Entry → Option Entry
begin_due script past = begin_of past (next_command script past)

-- a waiting command is answered after it began; a refusal waits for nothing
abbrev pub may_answer : Script → List Entry → Command → Bool
may_answer script past c =
    (not (is_waiting_command c) || is_some (begun past)) && (is_refusal (reply script past c) || is_over script past c)

abbrev pub call_of : Script → List Entry → Option Command → Option Entry
call_of script past (Some c) =
    if may_answer script past c then Some (Call (call_count past) (word_of c) (reply script past c)) else None
call_of script past None = None

-- the call that is due: the next command's
abbrev pub call_due : Script → List Entry → Option Entry
call_due script past = call_of script past (next_command script past)
