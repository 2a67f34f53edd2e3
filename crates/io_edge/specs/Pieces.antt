-- What a sink is given while bytes are gathered into pieces: our own choice.
use Rattle.std.specs.Prelude.{◌≡◌, ℕ, List, ◌++◌}
use Rattle.io_edge.specs.States.{SinkState, Writes}

-- of a text a front was written since, and the rest of it is gathered
pub record Gathers (before after : SinkState) (gathered text : List ℕ) : Type 0 where
  pub sent : List ℕ
  pub written : Writes before after sent
  pub whole : sent ++ gathered ≡ text
