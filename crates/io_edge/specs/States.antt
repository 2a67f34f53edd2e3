-- What contracts see of every sink.
use Rattle.std.specs.Prelude.{ℕ, ◌<◌, List, Option, length, take}
use Rattle.std.specs.Io.KnownBytes.{Appends, Keeps}

-- the bytes that were written, where the sink tells them, and how many faults it has counted
pub record SinkState : Type 0 where
  pub written : Option (List ℕ)
  pub faults : ℕ

-- just these bytes were written since
abbrev pub Writes : SinkState → SinkState → List ℕ → Type 0
Writes before after bytes = Appends before.written after.written bytes

-- nothing was written since
abbrev pub WritesNothing : SinkState → SinkState → Type 0
WritesNothing before after = Keeps before.written after.written

-- a front of the bytes was written since, and not the whole of them
abbrev pub Breaks : SinkState → SinkState → List ℕ → Type 0
Breaks before after bytes = (count : ℕ) × (count < length bytes) × Writes before after (take count bytes)
