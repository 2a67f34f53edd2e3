-- The marks of fences, by those that wait.
use Rattle.std.proofs.Common.{◌≡◌, ◌<◌, ◌≤◌, ℕ, ◌+◌, ◌==◌, ◌&&◌, ◌||◌, zero, suc, Bool, true, false, not, List, [], ◌∷◌, ◌++◌, refl, sym, ap, ◌∙◌, arith, length, map, filter, nat_lt, inl, inr, slice_set}
use Rattle.std.specs.Prelude.{slice_index_or}
use Rattle.std.specs.List.{list_all, list_any, range_with_len}
use Rattle.std.proofs.lemmas.Bool.{cases_Bool, and_parts}
use Rattle.std.proofs.lemmas.Bool.Decides.{nat_tests}
use Rattle.std.proofs.lemmas.Grind.{common_steps}
use Rattle.std.proofs.lemmas.List.FromFn.{get_or-map-range_with_len, length-map-range_with_len, map-range_with_len_more}
use Rattle.basic_lemmas.proofs.Lists.{map-same}
use Rattle.judge_rows.specs.Fences.{are_given, is_past, marks}

pub length-marks : (waiting : List ℕ) (count : ℕ) → length (marks waiting count) ≡ count
length-marks waiting count = length-map-range_with_len (is_past waiting) 0 count

-- ---- a fence more

any-push : (p : ℕ → Bool) (xs : List ℕ) (x : ℕ) → list_any p (xs ++ x ∷ []) ≡ (list_any p xs || p x)
any-push p [] x = grind arith
any-push p (y ∷ xs) x = let ih = any-push p xs x in grind arith

same-below : (waiting : List ℕ) (count a n : ℕ) → a + n ≤ count → map (is_past (waiting ++ count ∷ [])) (range_with_len a n) ≡ map (is_past waiting) (range_with_len a n)
same-below waiting count a zero h = refl
same-below waiting count a (suc n) h =
    let other : (count == a) ≡ false = grind (arith, nat_tests) in
    let now : list_any (λ k. k == a) (waiting ++ count ∷ []) ≡ (list_any (λ k. k == a) waiting || (count == a)) = any-push (λ k. k == a) waiting count in
    let head : is_past (waiting ++ count ∷ []) a ≡ is_past waiting a = grind arith in
    let ih = same-below waiting count (a + 1) n (omega arith) in
    rw (head, ih) refl

pub marks-given : (waiting : List ℕ) (count : ℕ) → marks (waiting ++ count ∷ []) (count + 1) ≡ marks waiting count ++ false ∷ []
marks-given waiting count =
    let more = map-range_with_len_more (is_past (waiting ++ count ∷ [])) 0 count count (omega arith) in
    let own : (count == count) ≡ true = grind (arith, nat_tests) in
    let now : list_any (λ k. k == count) (waiting ++ count ∷ []) ≡ (list_any (λ k. k == count) waiting || (count == count)) = any-push (λ k. k == count) waiting count in
    let last : is_past (waiting ++ count ∷ []) count ≡ false = grind arith in
    more ∙ rw (same-below waiting count 0 count (omega arith), last) refl

pub given-more : (waiting : List ℕ) (count : ℕ) → are_given count waiting ≡ true → are_given (count + 1) (waiting ++ count ∷ []) ≡ true
given-more [] count h = grind (arith, nat_tests)
given-more (n ∷ waiting) count h =
    let parts = and_parts (nat_lt n count) (are_given count waiting) h in
    let ih = given-more waiting count parts.1 in
    grind (arith, nat_tests)

-- ---- a signal

any-out : (waiting : List ℕ) (f k : ℕ) → list_any (λ n. n == k) (filter (λ n. not (n == f)) waiting) ≡ (list_any (λ n. n == k) waiting && not (f == k))
any-out [] f k = refl
any-out (n ∷ waiting) f k = let ih = any-out waiting f k in grind (arith, nat_tests)

past-out : (waiting : List ℕ) (f k : ℕ) → is_past (filter (λ n. not (n == f)) waiting) k ≡ (is_past waiting k || (f == k))
past-out waiting f k = let out = any-out waiting f k in grind arith

others : (g : ℕ → Bool) (c a n : ℕ) → c < a → map (λ k. g k || (c == k)) (range_with_len a n) ≡ map g (range_with_len a n)
others g c a zero h = refl
others g c a (suc n) h =
    let other : (c == a) ≡ false = grind (arith, nat_tests) in
    let head : (g a || (c == a)) ≡ g a = grind arith in
    rw (head, others g c (a + 1) n (omega arith)) refl

put-true : (g : ℕ → Bool) (f a n c : ℕ) → c ≡ a + f → map (λ k. g k || (c == k)) (range_with_len a n) ≡ slice_set (map g (range_with_len a n)) f true
put-true g f a zero c at = refl
put-true g zero a (suc n) c at =
    let own : (c == a) ≡ true = grind (arith, nat_tests) in
    let head : (g a || (c == a)) ≡ true = grind arith in
    rw head (ap (λ (xs : List Bool). true ∷ xs) (others g c (a + 1) n (omega arith)))
put-true g (suc f) a (suc n) c at =
    let other : (c == a) ≡ false = grind (arith, nat_tests) in
    let head : (g a || (c == a)) ≡ g a = grind arith in
    rw head (ap (λ (xs : List Bool). g a ∷ xs) (put-true g f (a + 1) n c (omega arith)))

pub marks-signalled : (waiting : List ℕ) (count f : ℕ) → marks (filter (λ n. not (n == f)) waiting) count ≡ slice_set (marks waiting count) f true
marks-signalled waiting count f =
    map-same (is_past (filter (λ n. not (n == f)) waiting)) (λ k. is_past waiting k || (f == k)) (range_with_len 0 count) (λ k. past-out waiting f k)
    ∙ put-true (is_past waiting) f 0 count f (omega arith)

pub given-out : (waiting : List ℕ) (count f : ℕ) → are_given count waiting ≡ true → are_given count (filter (λ n. not (n == f)) waiting) ≡ true
given-out [] count f h = refl
given-out (n ∷ waiting) count f h =
    let parts = and_parts (nat_lt n count) (are_given count waiting) h in
    let ih = given-out waiting count f parts.1 in
    grind arith

-- ---- what is read

pub mark-at : (waiting : List ℕ) (count f : ℕ) → slice_index_or (marks waiting count) f false ≡ (nat_lt f count && not (list_any (λ n. n == f) waiting))
mark-at waiting count f = elim (cases_Bool (nat_lt f count)) [
  | inl within ↦ (let at = get_or-map-range_with_len (is_past waiting) 0 count f f false (grind (arith, nat_tests)) (omega arith) in rw (within, at) refl)
  | inr past ↦ rw past (beyond (marks waiting count) f (grind (arith, nat_tests, length-marks waiting count)))
]
  where
    beyond : (xs : List Bool) (f : ℕ) → length xs ≤ f → slice_index_or xs f false ≡ false
    beyond [] f h = refl
    beyond (x ∷ xs) zero h = absurd (omega arith)
    beyond (x ∷ xs) (suc f) h = beyond xs f (omega arith)

all-past : (a n : ℕ) → list_all (λ b. b) (map (is_past []) (range_with_len a n)) ≡ true
all-past a zero = refl
all-past a (suc n) = all-past (a + 1) n

one-left : (p : ℕ → Bool) (a n f : ℕ) → a ≤ f → f < a + n → p f ≡ false → list_all (λ b. b) (map p (range_with_len a n)) ≡ false
one-left p a zero f h l left = absurd (omega arith)
one-left p a (suc n) f h l left = elim (cases_Bool (a == f)) [
  | inl same ↦ (let at : a ≡ f = grind (arith, nat_tests) in rw (at, left) refl)
  | inr other ↦ (let ih = one-left p (a + 1) n f (grind (arith, nat_tests)) (omega arith) left in grind arith)
]

pub all-marked : (waiting : List ℕ) (count : ℕ) → are_given count waiting ≡ true → (length waiting == 0) ≡ list_all (λ b. b) (marks waiting count)
all-marked [] count h = sym (all-past 0 count)
all-marked (n ∷ waiting) count h =
    let parts = and_parts (nat_lt n count) (are_given count waiting) h in
    let own : (n == n) ≡ true = grind (arith, nat_tests) in
    let left : is_past (n ∷ waiting) n ≡ false = grind arith in
    let some : (length (n ∷ waiting) == 0) ≡ false = grind (arith, nat_tests, common_steps) in
    some ∙ sym (one-left (is_past (n ∷ waiting)) 0 count n (omega arith) (grind (arith, nat_tests)) left)
