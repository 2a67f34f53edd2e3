use Rattle.std.specs.Prelude.{ℕ, Bool, true, false, List, [], ◌∷◌, ◌++◌, length, slice_index_or, slice_set}

-- Fences that a client signals when it is done with a buffer (camera3.h, camera3_stream_buffer: acquire_fence and
-- release_fence). Their numbers, and that one side of a fence signals and one waits, are our own choice.

-- the fences that were made, by number, whether each is signalled, and how many there is room for
pub record FencesMade : Type 0 where
  pub signalled : List Bool
  pub room : ℕ

-- how many were made: their numbers are those below
abbrev pub made : FencesMade → ℕ
made fences = length fences.signalled

abbrev pub is_signalled : ℕ → FencesMade → Bool
is_signalled number fences = slice_index_or fences.signalled number false

abbrev pub no_fences : ℕ → FencesMade
no_fences room = record { signalled = []; room = room }

-- one more, which isn't signalled
abbrev pub with_fence : FencesMade → FencesMade
with_fence fences = record fences { signalled = fences.signalled ++ false ∷ [] }

-- that one is signalled, the others are as before
abbrev pub with_signal : ℕ → FencesMade → FencesMade
with_signal number fences = record fences { signalled = slice_set fences.signalled number true }
