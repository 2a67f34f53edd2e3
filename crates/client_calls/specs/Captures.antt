use Rattle.std.specs.Prelude.{◌≡◌, ◌≤◌, ℕ, ◌+◌, Bool, false, List, [], ◌∷◌, ◌++◌, Some, length}
use Rattle.cam_types.specs.Limits.{queue_limit}
use Rattle.cam_types.specs.declared.reply.Reply.{Reply}
use Rattle.cam_types.specs.declared.reply.Reply.TheVariants.{Submitted, Refused}
use Rattle.cam_types.specs.declared.script.Command.{Command}
use Rattle.cam_types.specs.declared.script.Command.TheVariants.{Once, Burst, Repeat}
use Rattle.trace_model.specs.Calls.{is_repeat}
use Rattle.state_facts.specs.Turns.{Turns, no_turns}

-- What is to be captured next, with the numbers of frames and requests (the queue and the list that repeats are our own
-- choice).

-- the items that wait, the list that repeats and the numbers; of each accepted request whether its items repeat, and
-- for how many requests there is room
pub record Captures : Type 0 where
  pub turns : Turns
  pub kinds : List Bool
  pub room : ℕ

abbrev pub no_captures : ℕ → Captures
no_captures room = record { turns = no_turns; kinds = []; room = room }

abbrev pub with_turns : Turns → Captures → Captures
with_turns turns c = record { turns = turns; kinds = c.kinds; room = c.room }

-- of each accepted request whether its items repeat, after a call
abbrev pub kinds_called : Command → Reply → List Bool → List Bool
kinds_called c (Submitted r) kinds = kinds ++ is_repeat (Some c) ∷ []
kinds_called c reply kinds = kinds

-- ---- what an accepted request meets

-- its items find room among those that wait, or are a list of 1 to 8 that repeats; no other command submits any
abbrev pub HasPlace : Turns → Command → Type 0
HasPlace t (Once item) = length t.waiting + 1 ≤ queue_limit
HasPlace t (Burst items) = length t.waiting + length items ≤ queue_limit
HasPlace t (Repeat items) = (1 ≤ length items) × (length items ≤ 8)
HasPlace t _ = ⊥

-- it has the next number, and its items have their place; a repeat is accepted with a number alone
abbrev pub CanTake : Turns → Command → Reply → Type 0
CanTake t c (Submitted r) = (r.0 ≡ t.requests) × HasPlace t c
CanTake t c (Refused _ _ _) = Unit {0}
CanTake t c reply = is_repeat (Some c) ≡ false
