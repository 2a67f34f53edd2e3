-- More than four targets are bad where at most four streams are configured: one is of another stream, or two are of one.
use Rattle.std.proofs.Common.{◌≡◌, ℕ, zero, suc, ◌+◌, ◌<◌, ◌≤◌, ◌==◌, Bool, true, false, ◌||◌, not, List, [], ◌∷◌, length, nat_lt, refl, sym, ap, ◌∙◌, arith}
use Rattle.std.specs.List.{list_any}
use Rattle.std.proofs.lemmas.Bool.{eqb-true, ltb-true}
use Rattle.hal_device_model.specs.Calls.{are_bad_targets, is_again, names_twice}
use Rattle.hal_model.specs.declared.event.HalTarget.{HalTarget}
use Rattle.basic_lemmas.proofs.Tests.{or-first, or-second, not-false}

abbrev one_if : Bool → ℕ
one_if true = 1
one_if false = 0

-- how many targets are of stream s
abbrev count : ℕ → List HalTarget → ℕ
count s [] = 0
count s (t ∷ ts) = one_if (t.stream == s) + count s ts

-- ---- a target whose stream no later one has

none-again : (t : HalTarget) (ts : List HalTarget) → list_any (is_again t) ts ≡ false → count t.stream ts ≡ 0
none-again t [] h = refl
none-again t (u ∷ ts) h =
    let no : (u.stream == t.stream) ≡ false = or-first (u.stream == t.stream) (u.buffer == t.buffer) (or-first (is_again t u) (list_any (is_again t) ts) h) in
    let rest : count t.stream ts ≡ 0 = none-again t ts (or-second (is_again t u) (list_any (is_again t) ts) h) in
    rw (no, rest) refl

at_most_one : (s : ℕ) (ts : List HalTarget) → names_twice ts ≡ false → count s ts ≤ 1
at_most_one s [] h = omega arith
at_most_one s (t ∷ ts) h =
    by (t.stream == s) refl (at_most_one s ts (or-second (list_any (is_again t) ts) (names_twice ts) h))
    (none-again t ts (or-first (list_any (is_again t) ts) (names_twice ts) h))
  where
    by : (b : Bool) → (t.stream == s) ≡ b → count s ts ≤ 1 → count t.stream ts ≡ 0
        → one_if (t.stream == s) + count s ts ≤ 1
    by true e later none =
        let same : t.stream ≡ s = eqb-true t.stream s e in
        let no : count s ts ≡ 0 = ap (λ (i : ℕ). count i ts) (sym same) ∙ none in
        rw (e, no) (omega arith)
    by false e later none = rw e (omega arith)

-- ---- each target is of one of the streams 0 to 3

in_four : (s : ℕ) → s < 4 → 1 ≤ one_if (s == 0) + (one_if (s == 1) + (one_if (s == 2) + one_if (s == 3)))
in_four zero h = omega arith
in_four (suc zero) h = omega arith
in_four (suc (suc zero)) h = omega arith
in_four (suc (suc (suc zero))) h = omega arith
in_four (suc (suc (suc (suc n)))) h = absurd (omega arith)

all_counted : (n : ℕ) (ts : List HalTarget) → n ≤ 4 → list_any (λ (t : HalTarget). not (nat_lt t.stream n)) ts ≡ false
    → length ts ≤ count 0 ts + (count 1 ts + (count 2 ts + count 3 ts))
all_counted n [] low h = omega arith
all_counted n (t ∷ ts) low h =
    let p = λ (u : HalTarget). not (nat_lt u.stream n) in
    let below : t.stream < n = ltb-true t.stream n (not-false (nat_lt t.stream n) (or-first (p t) (list_any p ts) h)) in
    let four : t.stream < 4 = omega arith in
    let head = in_four t.stream four in
    let rest = all_counted n ts low (or-second (p t) (list_any p ts) h) in
    omega arith

few : (n : ℕ) (ts : List HalTarget) → n ≤ 4 → list_any (λ (t : HalTarget). not (nat_lt t.stream n)) ts ≡ false
    → names_twice ts ≡ false → length ts ≤ 4
few n ts low h once =
    let a = at_most_one 0 ts once in let b = at_most_one 1 ts once in let c = at_most_one 2 ts once in
    let d = at_most_one 3 ts once in let all = all_counted n ts low h in
    omega arith

pub many-bad : (n : ℕ) (ts : List HalTarget) → n ≤ 4 → nat_lt 4 (length ts) ≡ true → are_bad_targets n ts ≡ true
many-bad n ts low many =
    by (length ts == 0) (list_any (λ (t : HalTarget). not (nat_lt t.stream n)) ts) (names_twice ts) (few n ts low)
  where
    by : (e u d : Bool) → (u ≡ false → d ≡ false → length ts ≤ 4) → (e || (u || d)) ≡ true
    by true u d f = refl
    by false true d f = refl
    by false false true f = refl
    by false false false f = absurd (let up : 4 < length ts = ltb-true 4 (length ts) many in let low = f refl refl in omega arith)
