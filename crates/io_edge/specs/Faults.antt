-- How an end counts its faults, by our own choice.
use Rattle.std.specs.Prelude.{ℕ, ◌≡◌, ◌+◌, ◌-◌, ◌^◌, ◌<◌, ◌≤◌, min, Result, MatchResult}
use Rattle.io_edge.specs.declared.source.Failed.{Failed}

-- A fault was counted. A counter of 64 bits that stands at its last value rises no more, so nothing is claimed there.
abbrev pub Rose : ℕ → ℕ → Type 0
Rose before after = (before ≤ after) × (before < 2 ^ 64 - 1 → before < after)

-- a call counts a fault where it fails, and only there
abbrev pub Counts : {T : Type 0} → Result T Failed → ℕ → ℕ → Type 0
Counts result before after = MatchResult result (λ _. after ≡ before) (λ _. Rose before after)

-- one more, up to the last value of a counter of 64 bits
abbrev pub one_more : ℕ → ℕ
one_more count = min (count + 1) (2 ^ 64 - 1)
