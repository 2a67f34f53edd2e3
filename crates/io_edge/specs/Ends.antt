-- What contracts see of the ends over memory.
use Rattle.std.specs.Prelude.{ℕ, ◌≡◌, ◌+◌, ◌≤◌, List, [], length}

-- the calls of an end: how many were made, the numbers (from 1) of those that are to fail, the faults counted
pub record Calls : Type 0 where
  pub made : ℕ
  pub failing : List ℕ
  pub faults : ℕ

-- a source: the bytes left, the most that a read gives, and its calls
pub record Input : Type 0 where
  pub left : List ℕ
  pub piece : ℕ
  pub calls : Calls

-- a sink: the bytes written, how many it holds at most, the most that a write takes, and its calls
pub record Output : Type 0 where
  pub written : List ℕ
  pub room : ℕ
  pub piece : ℕ
  pub calls : Calls

-- no call is to fail, and so many bytes more fit
abbrev pub HasRoom : Output → ℕ → Type 0
HasRoom sink total = (sink.calls.failing ≡ []) × (length sink.written + total ≤ sink.room)
