-- Bytes that are exchanged pair by pair.
use Rattle.std.proofs.Common.{◌≡◌, ℕ, zero, suc, ◌+◌, ◌*◌, ◌/◌, ◌<◌, List, [], ◌∷◌, refl, ap, arith, add-one, length, get_or}
use Rattle.std.proofs.Math.ListN.{set}
use Rattle.video_call.specs.Samples.{exchanged}

-- the first so many pairs are exchanged
abbrev pub exchanged_first : ℕ → List ℕ → List ℕ
exchanged_first zero bytes = bytes
exchanged_first (suc i) (low ∷ high ∷ bytes) = high ∷ (low ∷ exchanged_first i bytes)
exchanged_first (suc i) bytes = bytes

first-pair : (bytes : List ℕ) → 1 < length bytes → set (set bytes 0 (get_or bytes 1 0)) 1 (get_or bytes 0 0) ≡ exchanged_first 1 bytes
first-pair [] l = absurd (omega (arith, l))
first-pair (x ∷ []) l = absurd (omega (arith, l))
first-pair (x ∷ y ∷ bytes) l = refl

-- one pair more
pub pair-more : (i a : ℕ) (bytes : List ℕ) → a ≡ 2 * i → suc a < length bytes → set (set (exchanged_first i bytes) a (get_or (exchanged_first i bytes) (suc a) 0)) (suc a) (get_or (exchanged_first i bytes) a 0) ≡ exchanged_first (suc i) bytes
pair-more zero a bytes e l =
    let e' : a ≡ 0 = omega (arith, e) in
    let l' : 1 < length bytes = omega (arith, e', l) in
    rw e' (first-pair bytes l')
pair-more (suc j) a [] e l = absurd (omega (arith, l))
pair-more (suc j) a (x ∷ []) e l = absurd (omega (arith, l, e))
pair-more (suc j) a (x ∷ y ∷ bytes) e l =
    let e' : a ≡ suc (suc (2 * j)) = omega (arith, e) in
    let l' : suc (2 * j) < length bytes = omega (arith, l, e) in
    rw e' (ap (λ zs. y ∷ (x ∷ zs)) (pair-more j (2 * j) bytes refl l'))

-- all pairs
pub all-pairs : (n : ℕ) (bytes : List ℕ) → n ≡ length bytes / 2 → exchanged_first n bytes ≡ exchanged bytes
all-pairs zero [] e = refl
all-pairs (suc n) [] e = refl
all-pairs zero (x ∷ []) e = refl
all-pairs (suc n) (x ∷ []) e = refl
all-pairs zero (x ∷ y ∷ bytes) e = absurd (omega (arith, e))
all-pairs (suc n) (x ∷ y ∷ bytes) e =
    let e' : n ≡ length bytes / 2 = omega (arith, e) in ap (λ zs. y ∷ (x ∷ zs)) (all-pairs n bytes e')

-- the same as the code's step
pub pair_step : (i : ℕ) (bytes now : List ℕ) → now ≡ exchanged_first i bytes → i < length bytes / 2 → set (set now (2 * i) (get_or now (2 * i + 1) 0)) (2 * i + 1) (get_or now (2 * i) 0) ≡ exchanged_first (i + 1) bytes
pair_step i bytes now is l =
    let l' : suc (2 * i) < length bytes = omega (arith, l) in
    rw is (simp add-one (pair-more i (2 * i) bytes refl l'))
