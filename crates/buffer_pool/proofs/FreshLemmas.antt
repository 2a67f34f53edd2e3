-- A pool that is opened buffer by buffer.
use Rattle.std.proofs.Common.{◌≡◌, ℕ, ◌+◌, ◌<◌, ◌≤◌, zero, suc, Bool, true, false, List, [], ◌∷◌, ◌++◌, None, length, map, refl, ap, sym, ◌∙◌, inl, inr, arith}
use Rattle.std.specs.Prelude.{◌==◌, nat_lt, is_none, ◌&&◌}
use Rattle.std.specs.List.{list_all, list_any, range_with_len}
use Rattle.std.proofs.lemmas.Bool.{and_parts, and_from, cases_eq}
use Rattle.std.proofs.lemmas.Bool.Decides.{nat_tests}
use Rattle.std.proofs.lemmas.List.{map-append}
use Rattle.std.proofs.lemmas.List.Folds.{list_all-append}
use Rattle.cam_types.specs.Picture.{length_in}
use Rattle.cam_types.specs.Shown.{Shown}
use Rattle.cam_types.specs.declared.stream.StreamSpec.{StreamSpec}
use Rattle.buffer_pool.specs.declared.parked.Parked.{Parked}
use Rattle.buffer_pool.specs.Blocks.{block_length}
use Rattle.buffer_pool.specs.Home.{is_home, with_parked}
use Rattle.buffer_pool.specs.Opened.{AreFresh, has_no_waiter, is_whole, shows_picture}
use Rattle.buffer_pool.specs.Parked.{number}

range-push : (a n : ℕ) → range_with_len a (suc n) ≡ range_with_len a n ++ (a + n) ∷ []
range-push a zero = let e : a ≡ a + 0 = omega arith in ap (λ (k : ℕ). k ∷ []) e
range-push a (suc n) = let e : a + 1 + n ≡ a + suc n = omega arith in ap (λ (xs : List ℕ). a ∷ xs) (range-push (a + 1) n ∙ ap (λ (k : ℕ). range_with_len (a + 1) n ++ k ∷ []) e)

-- numbers that follow one another are below the next
numbers-below : (home : List Parked) (first n end : ℕ) → map number home ≡ range_with_len first n → end ≡ first + n → list_all (λ q. nat_lt (number q) end) home ≡ true
numbers-below [] first n end h e = refl
numbers-below (p ∷ home) first zero end h e = absurd (cc)
numbers-below (p ∷ home) first (suc n) end h e =
    let here : number p ≡ first = cc in
    let later : map number home ≡ range_with_len (first + 1) n = cc in
    let ih = numbers-below home (first + 1) n end later (omega arith) in
    grind (arith, nat_tests)

-- each of numbers that follow one another is at home
pub all-home : (home : List Parked) (first n m : ℕ) → map number home ≡ range_with_len first n → first ≤ m → m < first + n → is_home m home ≡ true
all-home [] first zero m h g l = absurd (omega arith)
all-home [] first (suc n) m h g l = absurd (cc)
all-home (p ∷ home) first zero m h g l = absurd (cc)
all-home (p ∷ home) first (suc n) m h g l =
    let here : number p ≡ first = cc in
    let later : map number home ≡ range_with_len (first + 1) n = cc in
    elim (cases_eq first m) [
      | inl e ↦ grind (arith, nat_tests)
      | inr ne ↦ (let ih = all-home home (first + 1) n m later (omega arith) (omega arith) in grind (arith, nat_tests))
    ]

below-away : (home : List Parked) (n : ℕ) → list_all (λ q. nat_lt (number q) n) home ≡ true → is_home n home ≡ false
below-away [] n h = refl
below-away (p ∷ home) n h =
    let parts = and_parts (nat_lt (number p) n) (list_all (λ q. nat_lt (number q) n) home) h in
    let ih = below-away home n parts.1 in
    grind (arith, nat_tests)

with_parked-last : (home : List Parked) (p : Parked) → list_all (λ q. nat_lt (number q) (number p)) home ≡ true → with_parked p home ≡ home ++ p ∷ []
with_parked-last [] p h = refl
with_parked-last (q ∷ home) p h =
    let parts = and_parts (nat_lt (number q) (number p)) (list_all (λ r. nat_lt (number r) (number p)) home) h in
    rw (parts.0) (ap (λ (xs : List Parked). q ∷ xs) (with_parked-last home p parts.1))

-- the next number isn't at home
pub fresh-away : (spec : StreamSpec) (first n m : ℕ) (home : List Parked) → AreFresh spec first n home → m ≡ first + n → is_home m home ≡ false
fresh-away spec first n m home fresh e = below-away home m (numbers-below home first n m fresh.numbers e)

all-push : (test : Parked → Bool) (home : List Parked) (p : Parked) → list_all test home ≡ true → test p ≡ true → list_all test (home ++ p ∷ []) ≡ true
all-push test home p h t = rw list_all-append (and_from _ _ h (rw t refl))

fresh-push : (spec : StreamSpec) (first n : ℕ) (home : List Parked) (p : Parked) → AreFresh spec first n home → number p ≡ first + n → has_no_waiter p ≡ true → is_whole spec.format p ≡ true → shows_picture spec p ≡ true → AreFresh spec first (suc n) (home ++ p ∷ [])
fresh-push spec first n home p fresh e w b s = record {
  numbers = map-append number home (p ∷ []) ∙ (rw (fresh.numbers, e) (sym (range-push first n)));
  unfenced = all-push has_no_waiter home p fresh.unfenced w;
  whole = all-push (is_whole spec.format) home p fresh.whole b;
  shown = all-push (shows_picture spec) home p fresh.shown s;
}

abbrev pub over : Shown → Parked
over pixels = record { pixels = pixels; waiter = None }

-- one more buffer, over a whole block
pub fresh-given : (spec : StreamSpec) (first n : ℕ) (home : List Parked) (pixels : Shown) → AreFresh spec first n home → pixels.id.0 ≡ first + n → pixels.block ≡ block_length spec.format → length pixels.bytes ≡ length_in spec.format spec.width spec.height → AreFresh spec first (n + 1) (with_parked (over pixels) home)
fresh-given spec first n home pixels fresh e b s =
    let below = numbers-below home first n pixels.id.0 fresh.numbers e in
    let pushed = fresh-push spec first n home (over pixels) fresh e refl (grind (arith, nat_tests)) (grind (arith, nat_tests)) in
    let more : n + 1 ≡ suc n = omega arith in
    rw (more, with_parked-last home (over pixels) below) pushed
