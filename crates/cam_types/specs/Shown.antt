use Rattle.std.specs.Prelude.{ℕ, List}
use Rattle.cam_types.specs.declared.number.BufferId.{BufferId}

-- what a buffer shows: its number, its bytes, and how long its block is
pub record Shown : Type 0 where
  pub id : BufferId
  pub bytes : List ℕ
  pub block : ℕ
