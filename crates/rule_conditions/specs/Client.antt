use Rattle.std.specs.Prelude.{ℕ, ◌==◌, Bool, true, false, ◌||◌, not, List, [], ◌∷◌, Option, Some, None, nat_le, nat_lt, is_some}
use Rattle.cam_types.specs.contracts.reply.ReplyPartialEq.TheImpl.{eq-value as is_same_reply}
use Rattle.cam_types.specs.contracts.script.WordPartialEq.TheImpl.{eq-value as is_same_word}
use Rattle.cam_types.specs.declared.reply.Reply.{Reply}
use Rattle.cam_types.specs.declared.script.Command.{Command}
use Rattle.cam_types.specs.declared.script.Command.TheVariants.{Configure, Wait, Await, Flush, Close, Disconnect}
use Rattle.cam_types.specs.declared.script.Script.{Script}
use Rattle.cam_types.specs.declared.script.Word.{Word}
use Rattle.trace_model.specs.declared.entry.Entry.{Entry}
use Rattle.trace_model.specs.Calls.{begun, is_waiting_command, next_command, word_of}
use Rattle.trace_model.specs.Client.{is_empty, done_since_begin}
use Rattle.trace_model.specs.Entry.{is_refusal}
use Rattle.trace_model.specs.Fence.{early_fence_of, is_signalled, is_there}
use Rattle.trace_model.specs.Numbers.{call_count, next_fence}
use Rattle.trace_model.specs.Open.{is_quiet}
use Rattle.trace_model.specs.Place.{Client, place, is_at, all_in_pool}
use Rattle.trace_model.specs.Queue.{queued}
use Rattle.trace_model.specs.Reply.{reply}
use Rattle.rule_conditions.specs.declared.condition.Condition.{Condition}
use Rattle.rule_conditions.specs.declared.condition.Condition.TheVariants.{ReleaseAtClient, ReleaseBehindPicture, ReleaseNextFence, SignalBehindRelease, SignalToldOnce, BeginOfWaitingCommand, BeginWord, BeginToldOnce, CallNextIndex, CallWord, CallBehindBegin, CallReply, CallNoFrameOpen, CallQueueEmpty, CallAllInPool, CallAwaitedFrames}

-- The conditions of the client's entries (docs/CONTRACT.md, D15; camera3.h, configure_streams and flush).

abbrev pub release_conditions : List Condition
release_conditions = ReleaseAtClient ∷ ReleaseBehindPicture ∷ ReleaseNextFence ∷ []

abbrev pub release_holds : Condition → List Entry → ℕ → ℕ → Bool
release_holds ReleaseAtClient past b f = is_at (place b past) Client
release_holds ReleaseBehindPicture past b f = is_there (early_fence_of b past) past
release_holds ReleaseNextFence past b f = f == next_fence past
release_holds _ past b f = true

abbrev pub signal_conditions : List Condition
signal_conditions = SignalBehindRelease ∷ SignalToldOnce ∷ []

abbrev pub signal_holds : Condition → List Entry → ℕ → Bool
signal_holds SignalBehindRelease past f = nat_lt f (next_fence past)
signal_holds SignalToldOnce past f = not (is_signalled f past)
signal_holds _ past f = true

-- ---- begins

abbrev pub begin_conditions : List Condition
begin_conditions = BeginOfWaitingCommand ∷ BeginWord ∷ BeginToldOnce ∷ []

abbrev pub waits : Option Command → Bool
waits (Some c) = is_waiting_command c
waits None = false

abbrev pub has_word : Option Command → Word → Bool
has_word (Some c) word = is_same_word.it (word_of c) word
has_word None word = false

abbrev pub begin_holds : Condition → Script → List Entry → Word → Bool
begin_holds BeginOfWaitingCommand script past word = waits (next_command script past)
begin_holds BeginWord script past word = has_word (next_command script past) word
begin_holds BeginToldOnce script past word = not (is_some (begun past))
begin_holds _ script past word = true

-- ---- calls

abbrev pub call_conditions : List Condition
call_conditions =
    CallNextIndex ∷ CallWord ∷ CallBehindBegin ∷ CallReply ∷ CallNoFrameOpen ∷ CallQueueEmpty ∷ CallAllInPool
    ∷ CallAwaitedFrames ∷ []

-- the command is answered once nothing is in process and nothing is queued
abbrev pub waits_for_idle : Command → Bool
waits_for_idle Flush = true
waits_for_idle Disconnect = true
waits_for_idle (Configure _) = true
waits_for_idle Wait = true
waits_for_idle Close = true
waits_for_idle _ = false

-- and once every buffer is back
abbrev pub waits_for_pool : Command → Bool
waits_for_pool (Configure _) = true
waits_for_pool Wait = true
waits_for_pool Close = true
waits_for_pool _ = false

-- the device became done with as many frames as the command waits for
abbrev pub has_awaited : Script → List Entry → Command → Bool
has_awaited script past (Await k) = nat_le k (done_since_begin script past)
has_awaited script past _ = true

-- the command, where there is a next one, is refused or passes the test
abbrev pub where_accepted : Script → List Entry → Option Command → (Command → Bool) → Bool
where_accepted script past (Some c) p = is_refusal (reply script past c) || p c
where_accepted script past None p = true

abbrev pub has_reply : Script → List Entry → Option Command → Reply → Bool
has_reply script past (Some c) r = is_same_reply.it (reply script past c) r
has_reply script past None r = true

abbrev pub call_holds : Condition → Script → List Entry → ℕ → Word → Reply → Bool
call_holds CallNextIndex script past i word r = i == call_count past
call_holds CallWord script past i word r = has_word (next_command script past) word
call_holds CallBehindBegin script past i word r = not (waits (next_command script past)) || is_some (begun past)
call_holds CallReply script past i word r = has_reply script past (next_command script past) r
call_holds CallNoFrameOpen script past i word r =
    where_accepted script past (next_command script past) (λ c. not (waits_for_idle c) || is_quiet past)
call_holds CallQueueEmpty script past i word r =
    where_accepted script past (next_command script past)
    (λ c. not (waits_for_idle c) || is_empty (queued script past))
call_holds CallAllInPool script past i word r =
    where_accepted script past (next_command script past) (λ c. not (waits_for_pool c) || all_in_pool past)
call_holds CallAwaitedFrames script past i word r =
    where_accepted script past (next_command script past) (has_awaited script past)
call_holds _ script past i word r = true
