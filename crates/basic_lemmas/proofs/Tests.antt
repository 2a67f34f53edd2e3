-- Lemmas on tests, beside those of the library (`Rattle.std.proofs.lemmas.Bool`).
use Rattle.std.proofs.Common.{◌≡◌, ℕ, ◌==◌, ◌+◌, Bool, true, false, ◌&&◌, ◌||◌, not, cond, if◌then◌else◌, Some, None, refl, arith, inl, inr, ◌⊎◌, nat_lt, zero, suc, ◌-◌, ◌∷◌, ap, map, sym, ◌<◌, ◌≤◌}
use Rattle.std.proofs.lemmas.Bool.{both_ways, false≢true}
use Rattle.std.proofs.lemmas.Bool.Decides.{nat_tests}
use Rattle.std.specs.Prelude.{replicate, ◌&&◌}

-- ---- and

pub and-false : (a : Bool) → (a && false) ≡ false
and-false true = refl
and-false false = refl

pub and-true : (a : Bool) → (a && true) ≡ a
and-true true = refl
and-true false = refl

-- ---- or

pub or-false : (a : Bool) → (a || false) ≡ a
or-false true = refl
or-false false = refl

pub or-alone : (a : Bool) → (a || false) ≡ true → a ≡ true
or-alone true h = refl
or-alone false h = h

pub or-again : (a b c : Bool) → ((a || b) || c) ≡ (a || (b || c))
or-again true b c = refl
or-again false b c = refl

pub or-crossed : (a b c d : Bool) → ((a || b) || (c || d)) ≡ ((a || c) || (b || d))
or-crossed true b c d = refl
or-crossed false true true d = refl
or-crossed false true false d = refl
or-crossed false false c d = refl

pub or-crossed-three : (a x b y c z : Bool) → ((a || x) || ((b || y) || (c || z))) ≡ ((a || (b || c)) || (x || (y || z)))
or-crossed-three true x b y c z = refl
or-crossed-three false true true y c z = refl
or-crossed-three false true false y true z = refl
or-crossed-three false true false y false z = refl
or-crossed-three false false true y c z = refl
or-crossed-three false false false true true z = refl
or-crossed-three false false false true false z = refl
or-crossed-three false false false false c z = refl

-- one of the first two is one of three
pub or-more : (a b c : Bool) → (a || b) ≡ true → (a || (b || c)) ≡ true
or-more true b c h = refl
or-more false true c h = refl
or-more false false c h = absurd (false≢true h)

-- ---- not

-- what implies a test that fails fails
pub not-by : (a b : Bool) → (a ≡ true → b ≡ true) → b ≡ false → a ≡ false
not-by true b implies fails = absurd (both_ways b fails (implies refl))
not-by false b implies fails = refl

-- ---- choices

pub chosen : {A : Type 0} (b : Bool) (x y z : A) → cond b x y ≡ z → ((b ≡ true) × (x ≡ z)) ⊎ ((b ≡ false) × (y ≡ z))
chosen true x y z h = inl (refl, h)
chosen false x y z h = inr (refl, h)

-- what is given where a test passes
pub given-where : {X : Type 0} (b : Bool) (x y : X) → (if b then Some x else None) ≡ Some y → (b ≡ true) × (x ≡ y)
given-where true x y h = (refl, cc)
given-where false x y h = absurd (cc)

-- the test passes where something is given
pub passed-where : {X : Type 0} (b : Bool) (x y : X) → (if b then Some x else None) ≡ Some y → b ≡ true
passed-where b x y h = (given-where b x y h).0

-- ---- numbers

pub eq-turned : (d f : ℕ) → (f == d) ≡ false → (d == f) ≡ false
eq-turned d f h = grind (arith, nat_tests, h)

pub lt-more : (f n m : ℕ) → m ≡ 1 + n → nat_lt f n ≡ true → nat_lt f m ≡ true
lt-more f n m next low = grind (arith, nat_tests, next, low)

pub or-true : (a : Bool) → (a || true) ≡ true
or-true true = refl
or-true false = refl

pub map-replicate : {X Y : Type 0} (f : X → Y) (n : ℕ) (x : X) → map f (replicate n x) ≡ replicate n (f x)
map-replicate f zero x = refl
map-replicate f (suc n) x = ap (λ xs. f x ∷ xs) (map-replicate f n x)

pub not-true : (b : Bool) → not b ≡ true → b ≡ false
not-true true h = absurd (cc)
not-true false h = refl

pub own-number : (n : ℕ) → (n == n) ≡ true
own-number n = grind (arith, nat_tests)

pub or-first : (a b : Bool) → (a || b) ≡ false → a ≡ false
or-first true b h = h
or-first false b h = refl

pub or-second : (a b : Bool) → (a || b) ≡ false → b ≡ false
or-second true b h = absurd (false≢true (sym h))
or-second false b h = h

pub not-false : (b : Bool) → not b ≡ false → b ≡ true
not-false true h = refl
not-false false h = absurd (false≢true (sym h))

pub or-neither : (a b : Bool) → a ≡ false → b ≡ false → (a || b) ≡ false
or-neither a b h g = rw (h, g) refl

pub equal-turned : (a b : ℕ) → (a == b) ≡ (b == a)
equal-turned a b = grind (arith, nat_tests)

pub or-right : (a b : Bool) → b ≡ true → (a || b) ≡ true
or-right true b h = refl
or-right false b h = h

pub not-so : (b : Bool) → (b ≡ true → ⊥) → b ≡ false
not-so true h = absurd (h refl)
not-so false h = refl

pub and-none : (a b : Bool) → (a && b) ≡ false → a ≡ true → b ≡ false
and-none true b h k = h
and-none false b h k = absurd (false≢true k)

pub two-ways : (a b : Bool) → (a ≡ true → b ≡ true) → (b ≡ true → a ≡ true) → a ≡ b
two-ways true b h k = sym (h refl)
two-ways false true h k = k refl
two-ways false false h k = refl

pub and-parts : (a b : Bool) → (a && b) ≡ true → (a ≡ true) × (b ≡ true)
and-parts true b h = (refl, h)
and-parts false b h = absurd (false≢true h)

pub done-not-open : (s d : Bool) → s ≡ true → (s && d) ≡ not (s && not d)
done-not-open true true h = refl
done-not-open true false h = refl
done-not-open false d h = absurd (false≢true h)

pub open-not-done : (s d : Bool) → (s && not d) ≡ true → (s && d) ≡ false
open-not-done true true h = absurd (false≢true h)
open-not-done true false h = refl
open-not-done false d h = refl

pub closed-done : (s d : Bool) → (s && not d) ≡ false → (s && d) ≡ s
closed-done true true h = refl
closed-done true false h = absurd (false≢true (sym h))
closed-done false d h = refl

pub no-end : (r d s : Bool) → (s ≡ true → d ≡ true) → (s ≡ false → d ≡ false) → (r && (d && not s)) ≡ false
no-end true true true a b = refl
no-end true true false a b = absurd (false≢true (sym (b refl)))
no-end true false s a b = refl
no-end false d s a b = refl

pub one-below : (k d n : ℕ) → 1 ≤ k → k ≡ (if nat_lt d n then 1 else 0) → d < n
one-below k d n some h = grind (arith, nat_tests, some, h)
