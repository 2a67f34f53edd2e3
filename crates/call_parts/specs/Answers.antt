use Rattle.std.specs.Prelude.{◌≡◌, ◌≤◌, ℕ, ◌⊎◌, List, Option, IfSome}
use Rattle.std.specs.Io.KnownBytes.{IsAtEnd}
use Rattle.io_edge.specs.Faults.{Rose}
use Rattle.io_edge.specs.States.{Breaks, SinkState, Writes, WritesNothing}

-- What a command answers, and what it writes then: the states of the sink before and after a call. (docs/FORMATS.md)

-- the whole text was written and no fault was counted
abbrev pub Written : List ℕ → SinkState → SinkState → Type 0
Written text before after = Writes before after text × (after.faults ≡ before.faults)

-- nothing was written and no fault was counted
abbrev pub Untouched : SinkState → SinkState → Type 0
Untouched before after = WritesNothing before after × (after.faults ≡ before.faults)

-- the sink failed, and a front of the text was written
abbrev pub Broken : List ℕ → SinkState → SinkState → Type 0
Broken text before after = Breaks before after text × Rose before.faults after.faults

-- the status is this one and the text was written whole, or it is 4 and the sink failed
abbrev pub Answers : ℕ → List ℕ → ℕ → SinkState → SinkState → Type 0
Answers wanted text status before after =
    ((status ≡ wanted) × Written text before after) ⊎ ((status ≡ 4) × Broken text before after)

-- the same, or the status is 5, memory ran out, nothing was written and no fault was counted
abbrev pub AnswersWithMemory : ℕ → List ℕ → ℕ → SinkState → SinkState → Type 0
AnswersWithMemory wanted text status before after =
    ((status ≡ 5) × Untouched before after) ⊎ Answers wanted text status before after

-- What a call answers and writes: a status and a text that belong to its input; 4 and a front of that text where the
-- sink failed; 5 where memory ran out, nothing is written and no fault is counted.
abbrev pub TellsBy : (ℕ → List ℕ → Type 0) → ℕ → SinkState → SinkState → Type 0
TellsBy Belongs status before after =
    ((status ≡ 5) × Untouched before after)
    ⊎ ((wanted : ℕ) × (text : List ℕ) × Belongs wanted text × Answers wanted text status before after)

-- The same of a call that reads its input: what the source has left, where it tells that. At status 3 the source
-- failed.
abbrev pub Tells : (List ℕ → ℕ → List ℕ → Type 0) → Option (List ℕ) → ℕ → SinkState → SinkState → Type 0
Tells Belongs left status before after =
    IfSome left (λ input. (status ≡ 3) ⊎ TellsBy (Belongs input) status before after)

-- At status 0 the source was read to its end, and this holds of its input and of the sink: the call did the whole of
-- what it is for.
abbrev pub OnDone : (List ℕ → SinkState → SinkState → Type 0) → ℕ → Option (List ℕ) → Option (List ℕ) → SinkState → SinkState → Type 0
OnDone Is status left_before left_after before after =
    status ≡ 0 → IsAtEnd left_after × IfSome left_before (λ input. Is input before after)

-- each status that belongs is one of an answer: 0 or 1
abbrev pub AreAnswers : (ℕ → List ℕ → Type 0) → Type 0
AreAnswers Belongs = (wanted : ℕ) (text : List ℕ) → Belongs wanted text → wanted ≤ 1
