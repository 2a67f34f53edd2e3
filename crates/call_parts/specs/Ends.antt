-- What a call has done to its source and its sink, by the status that it ended with. (docs/FORMATS.md, Statuses)
use Rattle.std.specs.Prelude.{◌≡◌, ◌≢◌, ◌⊎◌, ◌<◌, ◌≤◌, ℕ, List, Option, IfSome, length}
use Rattle.std.specs.Io.KnownBytes.{IsAtEnd}
use Rattle.io_edge.specs.Faults.{Rose}
use Rattle.io_edge.specs.States.{SinkState, WritesNothing}

-- the source's count of faults rose at status 3, and is as before at every other
pub record CountsSource (status before after : ℕ) : Type 0 where
  pub failed : status ≡ 3 → Rose before after
  pub kept : status ≢ 3 → after ≡ before

-- the sink's count of faults rose at status 4, and is as before at every other; at 3 and 5 nothing was written
pub record CountsSink (status : ℕ) (before after : SinkState) : Type 0 where
  pub failed : status ≡ 4 → Rose before.faults after.faults
  pub kept : status ≢ 4 → after.faults ≡ before.faults
  pub unwritten : (status ≡ 3) ⊎ (status ≡ 5) → WritesNothing before after

-- an input was read to its end, or it has more bytes than the limit
abbrev pub IsReadWhole : ℕ → Option (List ℕ) → Option (List ℕ) → Type 0
IsReadWhole limit before after = IsAtEnd after ⊎ IfSome before (λ input. limit < length input)

-- the source was read to its end at status 0; so it was at every status but 3 and 5, or the input is longer than the limit
pub record ReadsBy (limit status : ℕ) (before after : Option (List ℕ)) : Type 0 where
  pub done : status ≡ 0 → IsAtEnd after
  pub answered : status ≢ 3 → status ≢ 5 → IsReadWhole limit before after

-- What a call that reads at most so many bytes has done to its source, by its count of faults and what it has left, and
-- to its sink. It ends with a status that an input has: each but 2, which is for words that are no form.
pub record KeepsEnds (limit status faults_before faults_after : ℕ) (left_before left_after : Option (List ℕ)) (before after : SinkState) : Type 0 where
  pub source : CountsSource status faults_before faults_after
  pub sink : CountsSink status before after
  pub read : ReadsBy limit status left_before left_after
  pub known : status ≤ 5
  pub no_usage : status ≢ 2
