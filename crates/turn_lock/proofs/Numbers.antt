-- The root's list of the seats that it split off.
use Rattle.std.proofs.Common.{◌≡◌, ◌≢◌, ℕ, ◌≤◌, ◌==◌, ◌&&◌, not, List, [], ◌∷◌, refl, ap, sym, ◌∙◌, arith, true, false, cond, eq-eqb, ne_eqb}
use mathlib.Core.Logic.{dite}
use native.Mathlib.Decide.{ℕ_discrete}
use Rattle.turn_lock.specs.Views.{has, without, IsFalling}

-- a falling list has no number from its bound on
pub lacks : (bound : ℕ) (ms : List ℕ) (k : ℕ) → IsFalling bound ms → bound ≤ k → has ms k ≡ false
lacks bound [] k falls le = refl
lacks bound (m ∷ ms) k falls le = let h = lacks m ms k falls.1 (omega (arith, falls.0)) in let apart : m ≢ k = omega (arith, falls.0) in let e = ne_eqb m k apart in rw (e, h) refl

pub falling_higher : (low high : ℕ) (ms : List ℕ) → low ≤ high → IsFalling low ms → IsFalling high ms
falling_higher low high [] le falls = tt
falling_higher low high (m ∷ ms) le falls = (omega (arith, falls.0), falls.1)

pub falling_without : (bound n : ℕ) (ms : List ℕ) → IsFalling bound ms → IsFalling bound (without n ms)
falling_without bound n [] falls = tt
falling_without bound n (m ∷ ms) falls = let rest = falling_without m n ms falls.1 in let out = falling_higher m bound ms (omega (arith, falls.0)) falls.1 in
    elim (m == n) as (λ b. IsFalling bound (cond b ms (m ∷ without n ms))) [ true ↦ out | false ↦ (falls.0, rest) ]

-- what is taken out is there no more, and the others are
pub has_without : (bound n : ℕ) (ms : List ℕ) (k : ℕ) → IsFalling bound ms → has (without n ms) k ≡ (has ms k && not (k == n))
has_without bound n [] k falls = refl
has_without bound n (m ∷ ms) k falls =
    let rest = has_without m n ms k falls.1 in
    let none = lacks m ms m falls.1 (omega arith) in
    dite (ℕ_discrete m n)
    (λ e. dite (ℕ_discrete k m)
    (λ f. let h : has ms k ≡ false = ap (has ms) f ∙ none in rw (eq-eqb m n e, eq-eqb k n (f ∙ e), h, eq-eqb m k (sym f)) refl)
    (λ f. rw (eq-eqb m n e, ne_eqb k n (λ g. f (g ∙ sym e)), ne_eqb m k (λ g. f (sym g))) (elim (has ms k) as (λ b. b ≡ (b && true)) [ true ↦ refl | false ↦ refl ])))
    (λ e. dite (ℕ_discrete k m)
    (λ f. rw (ne_eqb m n e, eq-eqb m k (sym f), ne_eqb k n (λ g. e (sym f ∙ g))) refl)
    (λ f. rw (ne_eqb m n e, ne_eqb m k (λ g. f (sym g)), rest) refl))
