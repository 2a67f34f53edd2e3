-- The least step is the first that is bright enough.
use Rattle.std.proofs.Common.{◌≡◌, ℕ, zero, suc, ◌+◌, ◌*◌, ◌<◌, ◌≤◌, Bool, true, false, refl, arith}
use Rattle.std.specs.Prelude.{unwrap_or, nat_le}
use Rattle.std.specs.List.{find, range_with_len}
use Rattle.std.proofs.lemmas.Bool.Decides.{nat_tests}
use Rattle.cam_types.specs.declared.item.Settings.{Settings}
use Rattle.auto_call.specs.Brightness.{mean, at_step, least}
use Rattle.auto_call.proofs.Bright.{mean-le, mean-same}

-- the first of the numbers from a on, of which there are n, that passes, or else d
abbrev first : (ℕ → Bool) → ℕ → ℕ → ℕ → ℕ
first p a n d = unwrap_or (find p (range_with_len a n)) d

first-from : (p : ℕ → Bool) (a n d : ℕ) → d ≡ a + n → a ≤ first p a n d
first-from p a zero d e = omega arith
first-from p a (suc n) d e = let ih = first-from p (a + 1) n d (omega arith) in grind arith

first-to : (p : ℕ → Bool) (a n d : ℕ) → d ≡ a + n → first p a n d ≤ d
first-to p a zero d e = omega arith
first-to p a (suc n) d e = let ih = first-to p (a + 1) n d (omega arith) in grind arith

before-first : (p : ℕ → Bool) (a n d k : ℕ) → d ≡ a + n → a ≤ k → k < first p a n d → p k ≡ false
before-first p a zero d k e h l = absurd (omega arith)
before-first p a (suc n) d k e h l = let ih = before-first p (a + 1) n d k (omega arith) in grind arith

at-first : (p : ℕ → Bool) (a n d : ℕ) → d ≡ a + n → first p a n d < d → p (first p a n d) ≡ true
at-first p a zero d e l = absurd (omega arith)
at-first p a (suc n) d e l = let ih = at-first p (a + 1) n d (omega arith) in grind arith

pub least-from : (s : Settings) (target : ℕ) → 1 ≤ least s target
unfolding least
least-from s target = first-from (λ step. nat_le target (mean (at_step s step) 0)) 1 1000 1001 refl

pub least-to : (s : Settings) (target : ℕ) → least s target ≤ 1001
unfolding least
least-to s target = first-to (λ step. nat_le target (mean (at_step s step) 0)) 1 1000 1001 refl

dark-before : (s : Settings) (target step : ℕ) → 1 ≤ step → step < least s target → nat_le target (mean (at_step s step) 0) ≡ false
unfolding least
dark-before s target step h l = before-first (λ step. nat_le target (mean (at_step s step) 0)) 1 1000 1001 step refl h l

bright-at : (s : Settings) (target : ℕ) → least s target < 1001 → nat_le target (mean (at_step s (least s target)) 0) ≡ true
unfolding least
bright-at s target l = at-first (λ step. nat_le target (mean (at_step s step) 0)) 1 1000 1001 refl l

pub too-dark : (s : Settings) (target step n : ℕ) → s.pattern ≤ 1 → 1 ≤ step → step < least s target → mean (at_step s step) n < target
too-dark s target step n still h l =
    let dark = dark-before s target step h l in
    let same = mean-same (at_step s step) n 0 still in
    rw same (below _ _ dark)
  where
    below : (t m : ℕ) → nat_le t m ≡ false → m < t
    below t m h = grind (arith, nat_tests)

pub bright-enough : (s : Settings) (target step n : ℕ) → s.pattern ≤ 1 → step ≤ 1000 → least s target ≤ step → target ≤ mean (at_step s step) n
bright-enough s target step n still most l =
    let bright = bright-at s target (omega arith) in
    let less = mean-le s (least s target * 100000) (step * 100000) 0 n still (omega arith) in
    above _ _ _ bright less
  where
    above : (t m k : ℕ) → nat_le t m ≡ true → m ≤ k → t ≤ k
    above t m k h l = grind (arith, nat_tests)

-- a step is bright enough just where it is the least or above
pub enough-is : (s : Settings) (target step n : ℕ) → s.pattern ≤ 1 → 1 ≤ step → step ≤ 1000 → nat_le target (mean (at_step s step) n) ≡ nat_le (least s target) step
enough-is s target step n still h most =
    decides (least s target) step target (mean (at_step s step) n) (λ l. bright-enough s target step n still most l) (λ l. too-dark s target step n still h l)
  where
    decides : (a b t m : ℕ) → (a ≤ b → t ≤ m) → (b < a → m < t) → nat_le t m ≡ nat_le a b
    decides a b t m h k = grind (arith, nat_tests)
