-- What contracts see of an arbiter.
use Rattle.std.specs.Prelude.{◌≡◌, ℕ, true, List, []}
use Rattle.std.specs.List.{list_all}
use Rattle.arbiter_call.specs.Answers.{log_after}
use Rattle.arbiter_call.specs.Ranges.{is_count, is_line}
use Rattle.arbiter_call.specs.declared.answer.LogLine.{LogLine}
use Rattle.arbiter_call.specs.declared.line.ArbiterLine.{ArbiterLine}

-- how many cameras there are, and the log, the newest line first
pub record Arbitration : Type 0 where
  pub cameras : ℕ
  pub past : List LogLine

-- the log is what lines made
pub record IsMade (cameras : ℕ) (past : List LogLine) : Type 0 where
  pub count : is_count cameras ≡ true
  pub lines : List ArbiterLine
  pub range : list_all (is_line cameras) lines ≡ true
  pub made : past ≡ log_after cameras [] lines
