use Rattle.std.specs.Prelude.{ℕ, ◌≤◌, ◌<◌, ◌^◌}
use Rattle.cam_types.specs.declared.reply.Reply.{Reply}
use Rattle.cam_types.specs.declared.reply.Reply.TheVariants.{Submitted}

-- The room for requests, which is taken at the start (our own choice): a request more needs no memory.

-- there are no more requests than there is room for, the memory for them is there, and their numbers fit their type
pub record IsKept (requests room capacity : ℕ) : Type 0 where
  pub within : requests ≤ room
  pub taken : room ≤ capacity
  pub numbered : room < 2 ^ 32

-- the reply accepts a request
abbrev pub IsSubmitted : Reply → Type 0
IsSubmitted (Submitted r) = Unit {0}
IsSubmitted reply = ⊥
