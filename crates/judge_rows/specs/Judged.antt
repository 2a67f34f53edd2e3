use Rattle.std.specs.Prelude.{◌≡◌, ◌<◌, ◌^◌, ℕ, ◌+◌, Option, Some, None, length, IsSome, IsTrue}
use Rattle.cam_types.specs.declared.reply.Reply.{Reply}
use Rattle.cam_types.specs.declared.reply.Reply.TheVariants.{Submitted}
use Rattle.cam_types.specs.declared.script.Command.{Command}
use Rattle.cam_types.specs.declared.script.Script.{Script}
use Rattle.cam_types.specs.declared.script.Word.{Word}
use Rattle.trace_model.specs.declared.entry.Entry.{Entry}
use Rattle.trace_model.specs.declared.entry.Entry.TheVariants.{Call, Send, Dropped}
use Rattle.trace_model.specs.Calls.{command_at, word_of}
use Rattle.trace_model.specs.Queue.{first_in}
use Rattle.state_facts.specs.Turns.{Turns, next_of}
use Rattle.state_facts.specs.Homes as buffers
use Rattle.state_facts.specs.Clients as client
use Rattle.client_calls.specs.Around.{Fits}
use Rattle.client_calls.specs.Captures.{CanTake}
use Rattle.state_facts.specs.FrameReadings.{finishes_in, time_after}
use Rattle.state_facts.specs.Runs.{no_state}
use Rattle.state_facts.specs.Turns.{repeats_next}
use Rattle.state_facts.specs.States.{State}
use Rattle.judge_rows.specs.Views.{are_free}

-- The state of a trace with the room of its tables, and what they ask of an entry (our own choice: every entry that is
-- due in a trace of a valid script meets it).

-- the state, and for how many requests there is room
pub record Judged : Type 0 where
  pub state : State
  pub room : ℕ

abbrev pub nothing_judged : ℕ → Judged
nothing_judged room = record { state = no_state; room = room }

-- ---- the queue

-- what the command submits can be taken, and its word is this
abbrev pub CanTakeAt : Turns → Option Command → Word → Reply → Type 0
CanTakeAt t (Some c) word reply = (word ≡ word_of c) × CanTake t c reply
CanTakeAt t None word reply = ⊥

-- where a request is accepted there is room for it
abbrev pub TakesOne : ℕ → ℕ → Reply → Type 0
TakesOne requests room (Submitted r) = requests < room
TakesOne requests room reply = Unit {0}

-- a call can be taken; a send and a drop take the next item under the next number
abbrev pub CanCapture : Script → Turns → ℕ → Entry → Type 0
CanCapture script t room (Call i word reply) =
    CanTakeAt t (command_at script i) word reply × TakesOne t.requests room reply
CanCapture script t room (Send n _ _ _ _) = IsSome (next_of t) × (n.0 ≡ t.numbers) × (t.numbers + 1 < 2 ^ 32)
CanCapture script t room (Dropped n _ _) = IsSome (first_in t.waiting) × (n.0 ≡ t.numbers) × (t.numbers + 1 < 2 ^ 32)
CanCapture script t room _ = Unit {0}

-- ---- the whole

-- the queue can take the entry, each number fits its type after it, and no buffer gets a second device fence
pub record CanNote (script : Script) (e : Entry) (t : Judged) : Type 0 where
  pub captures : CanCapture script t.state.queue t.room e
  pub client :
      Fits
      (client.clients_after script (repeats_next (next_of t.state.queue)) (finishes_in e t.state.rows) e t.state.client)
  pub first : (buffers.homes_after e t.state.buffers).first < 2 ^ 32
  pub fences : length (buffers.homes_after e t.state.buffers).signalled < 2 ^ 32
  pub device_fences : length (buffers.homes_after e t.state.buffers).late < 2 ^ 32
  pub clock : time_after t.state.rows e t.state.clock < 2 ^ 64
  pub free : IsTrue (are_free e t.state.rows)
