-- Values that are parted by lanes.
use Rattle.std.proofs.Common.{◌≡◌, ℕ, ◌+◌, ◌*◌, ◌/◌, ◌%◌, ◌<◌, List, [], ◌∷◌, ◌++◌, length, take, drop, get_or, refl, ap, sym, ◌∙◌, arith, zero, suc, inl, inr, ◌-◌, ◌≤◌}
use Rattle.std.proofs.lemmas.Grind.{common_steps}
use Rattle.std.proofs.lemmas.List.{get_or-take, get_or-drop, get_or_append_left, get_or-append-add}
use Rattle.std.proofs.lemmas.Bool.{cases_lt}
use Rattle.std.proofs.lemmas.List.Elements.{All-from_get_or}
use Rattle.std.proofs.lemmas.List.{get_or-replicate, length-replicate}
use Rattle.std.proofs.lemmas.Simd.{get_or-zip2, length-zip2}
use Rattle.std.specs.List.{All}
use Rattle.std.specs.Simd.Lanes.{zip2}
use lib.ListN.{replicate}

-- the eight values of a function at the first places
abbrev pub eight-values : (ℕ → ℕ) → List ℕ
eight-values f = f 0 ∷ (f 1 ∷ (f 2 ∷ (f 3 ∷ (f 4 ∷ (f 5 ∷ (f 6 ∷ (f 7 ∷ [])))))))

pub eight : (f : ℕ → ℕ) (k : ℕ) → k < 8 → get_or (eight-values f) k 0 ≡ f k
eight f zero h = refl
eight f (suc zero) h = refl
eight f (suc (suc zero)) h = refl
eight f (suc (suc (suc zero))) h = refl
eight f (suc (suc (suc (suc zero)))) h = refl
eight f (suc (suc (suc (suc (suc zero))))) h = refl
eight f (suc (suc (suc (suc (suc (suc zero)))))) h = refl
eight f (suc (suc (suc (suc (suc (suc (suc zero))))))) h = refl
eight f (suc (suc (suc (suc (suc (suc (suc (suc k)))))))) h = absurd (omega arith)

-- both halves of sixteen values
pub halves : (xs : List ℕ) → length xs ≡ 16 → take 8 (take 8 xs) ++ take 8 (drop 8 xs) ≡ xs
halves xs len = grind (arith, common_steps)

-- a place of both halves of sixteen values
pub in-halves : (xs : List ℕ) (n : ℕ) → length xs ≡ 16 → get_or (take 8 (take 8 xs) ++ take 8 (drop 8 xs)) n 0 ≡ get_or xs n 0
in-halves xs n len = ap (λ l. get_or l n 0) (halves xs len)

-- a place of a slice of a list
pub in-slice : (xs : List ℕ) (first wide n m : ℕ) → n < wide → first + n ≡ m → get_or (take wide (drop first xs)) n 0 ≡ get_or xs m 0
in-slice xs first wide n m low e =
    get_or-take wide (drop first xs) n 0 low ∙ (get_or-drop first xs n 0 ∙ ap (λ i. get_or xs i 0) e)

-- a place of a block of 32 values of a row of the sensor
pub in-row : (rows : List ℕ) (first block n m : ℕ) → n < 32 → block < 5 → first + (block * 32 + n) ≡ m → get_or (take (block * 32 + 32 - block * 32) (drop (block * 32) (take (first + 160 - first) (drop first rows)))) n 0 ≡ get_or rows m 0
in-row rows first block n m low few e =
    in-slice (take (first + 160 - first) (drop first rows)) (block * 32) (block * 32 + 32 - block * 32) n (block * 32 + n) (omega arith) (omega arith)
    ∙ in-slice rows first (first + 160 - first) (block * 32 + n) m (omega arith) e

-- the first or the second of each pair of two lists of pairs above darkness, where each holds the pairs of its half of the values
pub pairs-part : (xs ys values : List ℕ) (offset k n m : ℕ) → offset < 2 → n ≡ k * 2 + offset → m ≡ k * 4 + offset → length xs ≡ 8 → ((j : ℕ) → j < 8 → get_or xs j 0 + 64 ≡ get_or (take 16 values) (j / 2 * 4 + j % 2) 0) → ((j : ℕ) → j < 8 → get_or ys j 0 + 64 ≡ get_or (take 16 (drop 16 values)) (j / 2 * 4 + j % 2) 0) → k < 8 → get_or (xs ++ ys) n 0 + 64 ≡ get_or values m 0
pairs-part xs ys values offset k n m small n-is m-is xs-len before behind below =
    elim (cases_lt k 4) [
      | inl less ↦ (let place : n / 2 * 4 + n % 2 ≡ m = omega arith in
          ap (λ v. v + 64) (get_or_append_left xs ys 0 n (omega arith)) ∙ (before n (omega arith) ∙ (get_or-take 16 values (n / 2 * 4 + n % 2) 0 (omega arith) ∙ ap (λ i. get_or values i 0) place)))
      | inr more ↦ (let there : length xs + (n - 8) ≡ n = omega arith in
          let place : 16 + ((n - 8) / 2 * 4 + (n - 8) % 2) ≡ m = omega arith in
          ap (λ i. get_or (xs ++ ys) i 0 + 64) (sym there) ∙ (ap (λ v. v + 64) (get_or-append-add xs ys (n - 8) 0) ∙ (behind (n - 8) (omega arith) ∙ in-slice values 16 16 ((n - 8) / 2 * 4 + (n - 8) % 2) m (omega arith) place)))
    ]

-- eight values that stand in a list have what all of the list have
pub all-eight : (P : ℕ → Type 0) (f place : ℕ → ℕ) (values : List ℕ) → All P values → ((k : ℕ) → k < 8 → place k < length values) → ((k : ℕ) → k < 8 → f k ≡ get_or values (place k) 0) → All P (eight-values f)
all-eight P f place values all within each =
    All-from_get_or P (eight-values f) 0 (λ i h. rw (eight f i h ∙ each i h) (all (place i) 0 (within i h)))

-- one more block of eight values of a function, less the darkness, is written
pub blocks-more : (new old block : List ℕ) (f : ℕ → ℕ) (at : ℕ) → ((k : ℕ) → k < at * 8 → get_or new k 0 ≡ get_or old k 0) → ((k : ℕ) → k < 8 → get_or new (at * 8 + k) 0 ≡ get_or block k 0) → ((k : ℕ) → k < 8 → get_or block k 0 + 64 ≡ f (at * 8 + k)) → ((k : ℕ) → k < at * 8 → get_or old k 0 + 64 ≡ f k) → (k : ℕ) → k < (at + 1) * 8 → get_or new k 0 + 64 ≡ f k
blocks-more new old block f at before here values done k below =
    elim (cases_lt k (at * 8)) [
      | inl less ↦ ap (λ v. v + 64) (before k less) ∙ done k less
      | inr more ↦ (let place : at * 8 + (k - at * 8) ≡ k = omega arith in
          ap (λ n. get_or new n 0 + 64) (sym place) ∙ (ap (λ v. v + 64) (here (k - at * 8) (omega arith)) ∙ (values (k - at * 8) (omega arith) ∙ ap f place)))
    ]

-- ---- lanes less the darkness: f is the lanes' subtraction

-- each of eight values less the darkness
pub above-each : (f : ℕ → ℕ → ℕ) (xs : List ℕ) → ((x : ℕ) → f x 64 ≡ (x + 65472) % 65536) → length xs ≡ 8 → All (λ v. (64 ≤ v) × (v ≤ 1023)) xs → (k : ℕ) → k < 8 → get_or (zip2 f xs (replicate 8 64)) k 0 + 64 ≡ get_or xs k 0
above-each f xs is len all k below =
    let within : k < length xs = omega (arith, len, below) in
    let value : f (get_or xs k 0) 64 ≡ (get_or xs k 0 + 65472) % 65536 = is (get_or xs k 0) in
    let range : (64 ≤ get_or xs k 0) × (get_or xs k 0 ≤ 1023) = all k 0 within in
    let dark : get_or {A = ℕ} (replicate {A = ℕ} 8 64) k 0 ≡ 64 = get_or-replicate 8 k 64 0 below in
    let parted : get_or (zip2 f xs (replicate 8 64)) k 0 ≡ f (get_or xs k 0) (get_or (replicate 8 64) k 0) = get_or-zip2 f xs (replicate 8 64) k 0 0 0 within (omega (arith, length-replicate {A = ℕ} 8 64, below)) in
    let whole : get_or (zip2 f xs (replicate 8 64)) k 0 ≡ (get_or xs k 0 + 65472) % 65536 = parted ∙ (ap (f (get_or xs k 0)) dark ∙ value) in
    omega (arith, whole, range.0, range.1)

pub above-len : (f : ℕ → ℕ → ℕ) (xs : List ℕ) → length xs ≡ 8 → length (zip2 f xs (replicate 8 64)) ≡ 8
above-len f xs len = length-zip2 f xs (replicate 8 64) (len ∙ sym (length-replicate {A = ℕ} 8 64)) ∙ len

pub above-all : (f : ℕ → ℕ → ℕ) (xs : List ℕ) → ((x : ℕ) → f x 64 ≡ (x + 65472) % 65536) → length xs ≡ 8 → All (λ v. (64 ≤ v) × (v ≤ 1023)) xs → All (λ v. v ≤ 959) (zip2 f xs (replicate 8 64))
above-all f xs is len all =
    All-from_get_or (λ v. v ≤ 959) (zip2 f xs (replicate 8 64)) 0 (λ i h. (let below : i < 8 = omega (arith, above-len f xs len, h) in
    let range : (64 ≤ get_or xs i 0) × (get_or xs i 0 ≤ 1023) = all i 0 (omega (arith, len, below)) in
    omega (arith, above-each f xs is len all i below, range.1)))

-- the mean of two values that lie so far above darkness
pub mean-above : (a b : ℕ) → (a + b) / 2 + 64 ≡ (a + 64 + (b + 64)) / 2
mean-above a b = omega arith
