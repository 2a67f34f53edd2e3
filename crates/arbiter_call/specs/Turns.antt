-- What a turn at an arbiter says that threads share. (our own choice)
use Rattle.std.specs.Prelude.{◌≡◌, ℕ, List, reverse}
use mathlib.Core.List.{IsPrefix}
use Rattle.arbiter_call.specs.Answers.{after, answer_to}
use Rattle.arbiter_call.specs.Arbitration.{Arbitration}
use Rattle.arbiter_call.specs.declared.answer.Answer.{Answer}
use Rattle.arbiter_call.specs.declared.answer.LogLine.{LogLine}
use Rattle.arbiter_call.specs.declared.line.ArbiterLine.{ArbiterLine}

-- what no turn changes
abbrev pub cameras_of : Arbitration → ℕ
cameras_of a = a.cameras

-- The line was answered by the log of this turn, which begins with all that the thread had seen; afterwards it has seen
-- the log with the answer's lines.
pub record AnswersInTurn (cameras : ℕ) (line : ArbiterLine) (seen : List LogLine) (answer : Answer) (now : List LogLine)
    : Type 0 where
  pub past : List LogLine
  pub begins : IsPrefix seen (reverse past)
  pub answered : answer ≡ answer_to cameras past line
  pub logged : now ≡ reverse (after cameras past line)
