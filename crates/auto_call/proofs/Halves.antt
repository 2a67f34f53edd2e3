-- What a frame leaves of a search.
use Rattle.std.proofs.Common.{◌≡◌, ℕ, zero, suc, ◌-◌, ◌*◌, ◌^◌, ◌≤◌, Bool, true, false, refl, arith}
use Rattle.std.specs.Prelude.{nat_le, nat_lt}
use Rattle.std.proofs.Math.Nat.{pow-succ', pow-le-pow_right, mul-le-mul_right}
use Rattle.std.proofs.lemmas.Bool.Decides.{nat_tests}
use Rattle.auto_call.specs.Search.{Search, step_of, narrowed, searched, IsWithin, Spans, IsHalved, decided, state_of}

pub step-from : (s : Search) → IsWithin s → 1 ≤ step_of s
step-from s h = grind (arith, nat_tests)

pub step-to : (s : Search) → IsWithin s → step_of s ≤ 1000
step-to s h = grind (arith, nat_tests)

pub within-narrowed : (b : Bool) (s : Search) → IsWithin s → IsWithin (narrowed b s)
within-narrowed true s h = record { least = grind (arith, nat_tests); ordered = grind (arith, nat_tests); most = grind (arith, nat_tests) }
within-narrowed false s h = record { least = grind (arith, nat_tests); ordered = grind (arith, nat_tests); most = grind (arith, nat_tests) }

pub spans-narrowed : (s : Search) (step : ℕ) → Spans s step → Spans (narrowed (nat_le step (step_of s)) s) step
spans-narrowed s step h = record { from = grind (arith, nat_tests); to = grind (arith, nat_tests) }

pub narrowed-half : (b : Bool) (s : Search) → s.low ≤ s.high → ((narrowed b s).high - (narrowed b s).low) * 2 ≤ s.high - s.low
narrowed-half true s h = grind (arith, nat_tests)
narrowed-half false s h = grind (arith, nat_tests)

pub halved-more : (b : Bool) (s : Search) (frames : ℕ) → s.low ≤ s.high → IsHalved s frames → IsHalved (narrowed b s) (suc frames)
halved-more b s frames ordered h =
    let half = narrowed-half b s ordered in
    let less = mul-le-mul_right (2 ^ frames) half in
    rw (pow-succ' 2 frames) (omega arith)

-- after ten frames one step alone is left
pub one-left : (s : Search) (frames : ℕ) → 10 ≤ frames → IsHalved s frames → s.high ≤ s.low
one-left s frames h halved =
    let more : 2 ^ 10 ≤ 2 ^ frames = pow-le-pow_right (omega arith) h in
    none-left (s.high - s.low) (2 ^ frames) s.low s.high more halved refl
  where
    none-left : (a p low high : ℕ) → 1024 ≤ p → a * p ≤ 1000 → a ≡ high - low → high ≤ low
    none-left zero p low high h k e = omega arith
    none-left (suc a) p low high h k e = absurd (omega arith)

pub decided-at : (s : Search) (step : ℕ) → s.high ≤ s.low → Spans s step → state_of s ≡ decided step
decided-at s step h span =
    let is : s.low ≡ step = omega arith in
    let none : nat_lt s.low s.high ≡ false = grind (arith, nat_tests) in
    rw (none, is) refl

searched-within : (step frames : ℕ) → IsWithin (searched step frames)
unfolding searched
searched-within step zero = record { least = omega arith; ordered = omega arith; most = omega arith }
searched-within step (suc frames) = within-narrowed _ _ (searched-within step frames)

-- each step of a path is a step
pub searched-step : (step frames : ℕ) → step_of (searched step frames) ≤ 1000
searched-step step frames = step-to (searched step frames) (searched-within step frames)
