-- A pool after a buffer was taken or given.
use Rattle.std.proofs.Common.{◌≡◌, ℕ, zero, suc, ◌+◌, ◌-◌, ◌<◌, ◌≤◌, ◌==◌, true, false, nat_le, nat_lt, List, [], ◌∷◌, Option, Some, None, refl, sym, ◌∙◌, ap, subst, arith, length, inl, inr}
use Rattle.std.specs.Prelude.{slice_set}
use Rattle.std.specs.List.{list_all, list_any}
use Rattle.std.proofs.lemmas.Bool.{and_parts, cases_Bool, cases_eq, eqb-true, false≢true}
use Rattle.std.proofs.lemmas.Bool.Decides.{nat_tests}
use Rattle.basic_lemmas.proofs.Lists.{any-mapped}
use Rattle.cam_types.specs.declared.stream.StreamSpec.{StreamSpec}
use Rattle.buffer_pool.specs.Home.{is_home, is_of, with_parked}
use Rattle.buffer_pool.specs.Parked.{number}
use Rattle.buffer_pool.specs.declared.parked.Parked.{Parked}
use Rattle.trace_model.specs.Place.{Place, Pool, is_at}
use Rattle.buffer_manager.specs.Resting.{ButAt, Resting, listed, resting}
use Rattle.buffer_manager.proofs.Resting.{give_is}
use Rattle.buffer_manager.specs.declared.stream.Stream.{Stream}
use Rattle.buffer_manager.specs.declared.slot.Slot.{Slot}
use Rattle.buffer_manager.specs.declared.slot.Slot.TheVariants.{Home}
use Rattle.buffer_manager.specs.Slots.{fence_number, fence_of, is_sound, place_of, slot_at}
use Rattle.buffer_manager.specs.Kept.{IsStocked, is_own}
use Rattle.buffer_manager.specs.Managed.{fence_from}
use Rattle.buffer_manager.specs.Streams.{MayGive, with_given}
use Rattle.buffer_manager.proofs.Moves.{Owns}
use Rattle.buffer_manager.proofs.Spots.{slot-here, slot-other}

abbrev pub place_in_slots : ℕ → List Slot → ℕ → Place
place_in_slots first slots b = place_of (slot_at first slots b)

abbrev pub fence_in_slots : ℕ → List Slot → ℕ → Option ℕ
fence_in_slots first slots b = fence_number (fence_of (slot_at first slots b))

-- the change of one slot, as the pool's laws take it
pub but : (first : ℕ) (slots : List Slot) (b : ℕ) (v : Slot) → first ≤ b → ButAt b (place_in_slots first slots) (fence_in_slots first slots) (place_in_slots first (slice_set slots (b - first) v)) (fence_in_slots first (slice_set slots (b - first) v))
but first slots b v low = record {
  places = λ c other. ap place_of (slot-other first slots b c v low other);
  fences = λ c other. ap (λ x. fence_number (fence_of x)) (slot-other first slots b c v low other);
}

-- a buffer that is elsewhere isn't listed
not-listed : (f : ℕ → Place) (g : ℕ → Option ℕ) (a n b : ℕ) → is_at (f b) Pool ≡ false → list_any (λ (r : Resting). r.buffer == b) (listed f g a n) ≡ false
not-listed f g a zero b away = refl
not-listed f g a (suc n) b away = elim (cases_Bool (is_at (f a) Pool)) [
  | inl home ↦ (
      let other : (a == b) ≡ false = elim (cases_Bool (a == b)) [
        | inl same ↦ absurd (false≢true (sym away ∙ (ap (λ x. is_at (f x) Pool) (sym (eqb-true a b same)) ∙ home)))
        | inr no' ↦ no'
      ] in
      rw (home, other) (not-listed f g (a + 1) n b away)
      )
  | inr gone ↦ rw gone (not-listed f g (a + 1) n b away)
]

pub not-home : (first : ℕ) (slots : List Slot) (s : Stream) (b : ℕ) → IsStocked first slots s → is_at (place_of (slot_at first slots b)) Pool ≡ false → is_home b s.pool.home ≡ false
not-home first slots s b kept away =
    sym (any-mapped (λ (r : Resting). r.buffer == b) resting s.pool.home) ∙ (ap (list_any (λ (r : Resting). r.buffer == b)) kept.home ∙ not-listed (place_in_slots first slots) (fence_in_slots first slots) s.made.first.0 s.made.count b away)

pub is-of : (first : ℕ) (slots : List Slot) (s : Stream) (b : ℕ) → IsStocked first slots s → Owns s b → is_of s.pool b ≡ true
is-of first slots s b kept owns =
    let low = owns.low in
    let high = owns.high in
    let one : nat_le s.made.first.0 b ≡ true = grind (arith, nat_tests, low) in
    let two : nat_lt b (s.made.first.0 + s.made.count) ≡ true = grind (arith, nat_tests, high) in
    rw (kept.low, kept.count, one, two) refl

pub may-give : (first : ℕ) (slots : List Slot) (s : Stream) (p : Parked) → IsStocked first slots s → Owns s (number p) → is_at (place_of (slot_at first slots (number p))) Pool ≡ false → MayGive p (Some s)
may-give first slots s p kept owns away = (is-of first slots s (number p) kept owns, not-home first slots s (number p) kept away)

own-given : (spec : StreamSpec) (p : Parked) (home : List Parked) → is_own spec p ≡ true → list_all (is_own spec) home ≡ true → list_all (is_own spec) (with_parked p home) ≡ true
own-given spec p [] own all = rw own refl
own-given spec p (q ∷ home) own all =
    let parts = and_parts (is_own spec q) (list_all (is_own spec) home) all in
    elim (cases_Bool (nat_lt (number q) (number p))) [
      | inl yes' ↦ rw (yes', parts.0) (own-given spec p home own parts.1)
      | inr no' ↦ rw (no', own, parts.0) parts.1
    ]

numbers-of : (o : Option ℕ) → o ≡ fence_number (fence_from o)
numbers-of (Some f) = refl
numbers-of None = refl

-- a buffer comes home
pub stocked-given : (first : ℕ) (slots : List Slot) (s : Stream) (p : Parked) → IsStocked first slots s → Owns s (number p) → first ≤ number p → number p - first < length slots → is_at (place_of (slot_at first slots (number p))) Pool ≡ false → is_own s.spec p ≡ true → IsStocked first (slice_set slots (number p - first) (Home (fence_from p.waiter))) (with_given p s)
stocked-given first slots s p kept owns low within away own = record {
  spec = kept.spec;
  low = kept.low;
  count = kept.count;
  home = give_is b (place_in_slots first slots) (place_in_slots first slots') (fence_in_slots first slots) (fence_in_slots first slots') s.made.first.0 s.made.count p s.pool.home (but first slots b (Home (fence_from p.waiter)) low) refl (numbers-of p.waiter ∙ ap (λ x. fence_number (fence_of x)) (sym here)) away (ap (λ x. is_at (place_of x) Pool) here) owns.low owns.high kept.home;
  own = own-given s.spec p s.pool.home own kept.own;
  offered = kept.offered;
  sound = λ c l h. elim (cases_eq c b) [
    | inl same ↦ subst (λ x. is_sound s.spec x (slot_at first slots' x) ≡ true) (sym same) (ap (is_sound s.spec b) here)
    | inr other ↦ ap (is_sound s.spec c) (slot-other first slots b c (Home (fence_from p.waiter)) low other) ∙ kept.sound c l h
  ];
}
  where
    b : ℕ
    b = number p

    slots' : List Slot
    slots' = slice_set slots (number p - first) (Home (fence_from p.waiter))

    here : slot_at first (slice_set slots (number p - first) (Home (fence_from p.waiter))) (number p) ≡ Home (fence_from p.waiter)
    here = slot-here first slots (number p) (Home (fence_from p.waiter)) low within
