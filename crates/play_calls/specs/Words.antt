-- The words of the generator SplitMix64, whose state begins with the seed. (Steele, Lea and Flood)
use Rattle.std.specs.Prelude.{ℕ, zero, suc, ◌-◌}
use Rattle.rand_xoshiro.specs.SplitMix64.{mix_u64}

-- the generator's state after so many words
unfoldable pub state_after : ℕ → ℕ → ℕ
state_after seed zero = seed
state_after seed (suc n) = (mix_u64 (state_after seed n)).1

-- word number j, counted from 1: all its 64 bits
unfoldable pub word : ℕ → ℕ → ℕ
word seed j = (mix_u64 (state_after seed (j - 1))).0
