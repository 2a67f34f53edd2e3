-- The picks of a line before those of further lines.
use Rattle.std.proofs.Common.{◌≡◌, ℕ, ◌+◌, ◌-◌, ◌<◌, ◌≤◌, ◌++◌, List, [], ◌∷◌, zero, suc, Some, arith, length, map, refl, sym}
use Rattle.std.specs.List.{flat_map, slice_get}
use Rattle.std.specs.Option.{option_map}
use Rattle.wrong_words.specs.Places.{numbered, numbers_of, picks_in}

among : (n : ℕ) (words : List (List ℕ)) (rest : List (ℕ × List ℕ)) (k : ℕ) → k < length words → option_map (λ p. p.0) (slice_get (map (λ w. (n, w)) words ++ rest) k) ≡ Some n
among n [] rest k l = absurd (omega arith)
among n (w ∷ words) rest zero l = refl
among n (w ∷ words) rest (suc k) l = among n words rest k (omega arith)

past : (n : ℕ) (words : List (List ℕ)) (rest : List (ℕ × List ℕ)) (k : ℕ) → length words ≤ k → slice_get (map (λ w. (n, w)) words ++ rest) k ≡ slice_get rest (k - length words)
past n [] rest k l = let e : k - 0 ≡ k = omega arith in rw e refl
past n (w ∷ words) rest zero l = absurd (omega arith)
past n (w ∷ words) rest (suc k) l =
    let e : suc k - length (w ∷ words) ≡ k - length words = omega arith in rw e (past n words rest k (omega arith))

-- a pick of the first line
pub in_line : (n : ℕ) (line : List ℕ) (lines all : List (List ℕ)) (k count : ℕ) → all ≡ line ∷ lines → count ≡ length (picks_in line) → k < count → Some n ≡ option_map (λ p. p.0) (slice_get (flat_map numbers_of (numbered n all)) k)
in_line n line lines all k count is c l =
    let short : k < length (picks_in line) = rw c at l in
    rw is (sym (among n (picks_in line) (flat_map numbers_of (numbered (n + 1) lines)) k short))

-- one of the lines behind it
pub behind_line : (n : ℕ) (line : List ℕ) (lines all : List (List ℕ)) (k count : ℕ) → all ≡ line ∷ lines → count ≡ length (picks_in line) → count ≤ k → slice_get (flat_map numbers_of (numbered (n + 1) lines)) (k - count) ≡ slice_get (flat_map numbers_of (numbered n all)) k
behind_line n line lines all k count is c l =
    let long : length (picks_in line) ≤ k = rw c at l in
    rw (is, c) (sym (past n (picks_in line) (flat_map numbers_of (numbered (n + 1) lines)) k long))
