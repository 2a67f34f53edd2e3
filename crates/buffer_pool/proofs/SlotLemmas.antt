-- What stands in the places of a pool, against the list of the buffers at home.
use Rattle.std.proofs.Common.{◌≡◌, ℕ, ◌+◌, ◌<◌, ◌≤◌, zero, suc, Bool, true, false, List, [], ◌∷◌, Option, Some, None, length, get_or, set, drop, refl, ap, sym, ◌∙◌, arith}
use Rattle.std.specs.Prelude.{is_some, slice_get, ◌==◌}
use Rattle.std.specs.List.{position_from, list_any}
use Rattle.std.proofs.lemmas.Bool.{and_parts, and_from, or_parts}
use Rattle.std.proofs.lemmas.Bool.Decides.{nat_tests}
use Rattle.buffer_pool.specs.declared.parked.Parked.{Parked}
use Rattle.buffer_pool.specs.Home.{is_home, rises, with_parked}
use Rattle.buffer_pool.specs.Parked.{number}
use Rattle.buffer_pool.specs.Slots.{homes, no_parked, stand_in}

-- no place has a buffer
pub homes-none : (slots : List (Option Parked)) (k : ℕ) → position_from (λ slot. is_some slot) k slots ≡ None → homes slots ≡ []
homes-none [] k h = refl
homes-none (Some p ∷ slots) k h = absurd (cc)
homes-none (None ∷ slots) k h = homes-none slots (k + 1) h

-- the first buffer stands at a place j, and without it the others are left
record IsFirst (slots : List (Option Parked)) (k i : ℕ) : Type 0 where
  pub place : ℕ
  pub parked : Parked
  pub at : i ≡ k + place
  pub there : (d : Option Parked) → get_or slots place d ≡ Some parked
  pub others : homes slots ≡ parked ∷ homes (set slots place no_parked)

first-after : (slots : List (Option Parked)) (k i : ℕ) → IsFirst slots (k + 1) i → IsFirst (None ∷ slots) k i
first-after slots k i f = record { place = suc f.place; parked = f.parked; at = omega (arith, f.at); there = f.there; others = f.others }

first-found : (slots : List (Option Parked)) (k i : ℕ) → position_from (λ slot. is_some slot) k slots ≡ Some i → IsFirst slots k i
first-found [] k i h = absurd (cc)
first-found (Some p ∷ slots) k i h = let e : k ≡ i = cc in record { place = 0; parked = p; at = omega (arith, e); there = λ d. refl; others = refl }
first-found (None ∷ slots) k i h = first-after slots k i (first-found slots (k + 1) i h)

-- the buffer that the first place has is the first at home
pub first-value : (slots : List (Option Parked)) (i : ℕ) (x d : Option Parked) → position_from (λ slot. is_some slot) 0 slots ≡ Some i → x ≡ get_or slots i d → x ≡ slice_get (homes slots) 0
first-value slots i x d h e =
    let f = first-found slots 0 i h in
    let at : i ≡ f.place = omega (arith, f.at) in
    e ∙ (ap (λ (k : ℕ). get_or slots k d) at ∙ (f.there d ∙ sym (ap (λ (xs : List Parked). slice_get xs 0) f.others)))

pub first-left : (slots : List (Option Parked)) (i : ℕ) → position_from (λ slot. is_some slot) 0 slots ≡ Some i → homes (set slots i no_parked) ≡ drop 1 (homes slots)
first-left slots i h =
    let f = first-found slots 0 i h in
    let at : i ≡ f.place = omega (arith, f.at) in
    ap (λ (k : ℕ). homes (set slots k no_parked)) at ∙ sym (ap (λ (xs : List Parked). drop 1 xs) f.others)

pub stand_in-freed : (slots : List (Option Parked)) (j n end : ℕ) → stand_in n end slots ≡ true → stand_in n end (set slots j no_parked) ≡ true
stand_in-freed [] j n end h = refl
stand_in-freed (Some p ∷ slots) zero n end h = (and_parts _ _ (and_parts (number p == n) _ h).1).1
stand_in-freed (None ∷ slots) zero n end h = h
stand_in-freed (None ∷ slots) (suc j) n end h = stand_in-freed slots j (n + 1) end h
stand_in-freed (Some p ∷ slots) (suc j) n end h = grind (arith, stand_in-freed slots j (n + 1) end)

pub stand_in-put : (slots : List (Option Parked)) (p : Parked) (j n end : ℕ) → stand_in n end slots ≡ true → number p ≡ n + j → number p < end → stand_in n end (set slots j (Some p)) ≡ true
stand_in-put [] p j n end h e l = refl
stand_in-put (Some q ∷ slots) p zero n end h e l = grind (arith, nat_tests)
stand_in-put (None ∷ slots) p zero n end h e l = grind (arith, nat_tests)
stand_in-put (None ∷ slots) p (suc j) n end h e l = stand_in-put slots p j (n + 1) end h (omega arith) l
stand_in-put (Some q ∷ slots) p (suc j) n end h e l =
    let later : stand_in (n + 1) end slots ≡ true = grind arith in
    let put = stand_in-put slots p j (n + 1) end later (omega arith) l in
    grind arith

-- the buffers at home are in order
rises-lower : (home : List Parked) (low end : ℕ) → rises (low + 1) end home ≡ true → rises low end home ≡ true
rises-lower [] low end h = refl
rises-lower (p ∷ home) low end h = grind (arith, nat_tests)

pub rises-placed : (slots : List (Option Parked)) (n end : ℕ) → stand_in n end slots ≡ true → rises n end (homes slots) ≡ true
rises-placed [] n end h = refl
rises-placed (None ∷ slots) n end h = rises-lower (homes slots) n end (rises-placed slots (n + 1) end h)
rises-placed (Some p ∷ slots) n end h =
    let later : stand_in (n + 1) end slots ≡ true = grind arith in
    let here : number p ≡ n = grind (arith, nat_tests) in
    let ih = rises-placed slots (n + 1) end later in
    rw here (grind (arith, nat_tests))

-- a buffer that isn't at home leaves its place free
pub place-free : (slots : List (Option Parked)) (n end m j : ℕ) → stand_in n end slots ≡ true → m ≡ n + j → is_home m (homes slots) ≡ false → get_or slots j no_parked ≡ None
place-free [] n end m j h e away = refl
place-free (None ∷ slots) n end m zero h e away = refl
place-free (Some p ∷ slots) n end m zero h e away = absurd (grind (arith, nat_tests))
place-free (None ∷ slots) n end m (suc j) h e away = place-free slots (n + 1) end m j h (omega arith) away
place-free (Some p ∷ slots) n end m (suc j) h e away =
    let later : stand_in (n + 1) end slots ≡ true = grind arith in
    let elsewhere : is_home m (homes slots) ≡ false = grind arith in
    place-free slots (n + 1) end m j later (omega arith) elsewhere

with_parked-before : (home : List Parked) (p : Parked) (low end : ℕ) → rises low end home ≡ true → number p < low → with_parked p home ≡ p ∷ home
with_parked-before [] p low end h l = refl
with_parked-before (q ∷ home) p low end h l = grind (arith, nat_tests)

-- a buffer that is put into its free place is at home among the others
pub homes-put : (slots : List (Option Parked)) (p : Parked) (n end j : ℕ) → stand_in n end slots ≡ true → number p ≡ n + j → j < length slots → get_or slots j no_parked ≡ None → homes (set slots j (Some p)) ≡ with_parked p (homes slots)
homes-put [] p n end j h e l free = absurd (omega arith)
homes-put (Some q ∷ slots) p n end zero h e l free = absurd (cc)
homes-put (None ∷ slots) p n end zero h e l free = sym (with_parked-before (homes slots) p (n + 1) end (rises-placed slots (n + 1) end h) (omega arith))
homes-put (None ∷ slots) p n end (suc j) h e l free = homes-put slots p (n + 1) end j h (omega arith) (omega arith) free
homes-put (Some q ∷ slots) p n end (suc j) h e l free =
    let later : stand_in (n + 1) end slots ≡ true = grind arith in
    let here : number q ≡ n = grind (arith, nat_tests) in
    let ih = homes-put slots p (n + 1) end j later (omega arith) (omega arith) free in
    grind (arith, nat_tests)

-- where none is at home each place is free
pub all-free : (slots : List (Option Parked)) (k : ℕ) → homes slots ≡ [] → get_or slots k no_parked ≡ None
all-free [] k h = refl
all-free (Some p ∷ slots) k h = absurd (cc)
all-free (None ∷ slots) zero h = refl
all-free (None ∷ slots) (suc k) h = all-free slots k h
