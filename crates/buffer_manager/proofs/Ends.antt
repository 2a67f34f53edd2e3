-- What is spent when the manager ends.
use Rattle.std.proofs.Common.{◌≡◌, ℕ, zero, suc, ◌+◌, ◌-◌, Bool, true, nat_le, nat_lt, List, [], ◌∷◌, Option, Some, None, refl, ap, arith, map, length, inl, inr}
use Rattle.std.specs.Prelude.{slice_get, slice_index_or}
use Rattle.std.specs.List.{list_all}
use Rattle.std.proofs.lemmas.Bool.{and_parts, cases_Bool}
use Rattle.std.proofs.lemmas.Bool.Decides.{nat_tests}
use Rattle.cam_types.specs.declared.number.FenceNo.{FenceNo}
use Rattle.buffer_pool.specs.Parked.{has_made_waiter, waits_below}
use Rattle.buffer_pool.specs.declared.parked.Parked.{Parked}
use Rattle.trace_model.specs.Place.{Place, Pool, is_at}
use Rattle.buffer_manager.specs.Resting.{Resting, listed, resting}
use Rattle.buffer_manager.specs.declared.slot.Slot.{Slot}
use Rattle.buffer_manager.specs.declared.slot.Slot.TheVariants.{Away, Early, Late}
use Rattle.buffer_manager.specs.declared.stream.Stream.{Stream}
use Rattle.buffer_manager.specs.Kept.{AreKept, IsStocked}
use Rattle.buffer_manager.specs.Managed.{is_given}
use Rattle.buffer_manager.specs.Slots.{fence_number, fence_of, is_made_slot, is_timely}
use Rattle.buffer_manager.specs.Streams.{waits_for_made}
use Rattle.buffer_manager.proofs.Pictures.{early-parts, late-parts}
use Rattle.buffer_manager.proofs.Pools.{fence_in_slots, place_in_slots}

made-slot : (late : List Bool) (v : Slot) → is_timely late v ≡ true → is_made_slot (length late) v ≡ true
made-slot late (Early s w) h =
    let parts = early-parts late s w h in
    let same = parts.0 in
    let less = parts.1 in
    let one : nat_lt s (length late) ≡ true = grind (arith, nat_tests, same, less) in
    let two : nat_lt w (length late) ≡ true = grind (arith, nat_tests, less) in
    rw (one, two) refl
made-slot late (Late p w) h = (let less = (late-parts late p w h).0 in grind (arith, nat_tests, less))
made-slot late _ h = refl

pub made-slots : (late : List Bool) (slots : List Slot) → ((i : ℕ) → is_timely late (slice_index_or slots i Away) ≡ true) → list_all (is_made_slot (length late)) slots ≡ true
made-slots late [] h = refl
made-slots late (v ∷ slots) h = rw (made-slot late v (h 0)) (made-slots late slots (λ i. h (suc i)))

-- the fences of all slots are given
given-at : (n : ℕ) (slots : List Slot) (i : ℕ) → list_all (is_given n) (map fence_of slots) ≡ true → is_given n (fence_of (slice_index_or slots i Away)) ≡ true
given-at n [] i h = refl
given-at n (v ∷ slots) zero h = (and_parts (is_given n (fence_of v)) (list_all (is_given n) (map fence_of slots)) h).0
given-at n (v ∷ slots) (suc i) h = given-at n slots i (and_parts (is_given n (fence_of v)) (list_all (is_given n) (map fence_of slots)) h).1

waits-given : (n : ℕ) (o : Option FenceNo) → is_given n o ≡ true → waits_below n (fence_number o) ≡ true
waits-given n (Some f) h = h
waits-given n None h = refl

waits-at : (n first : ℕ) (slots : List Slot) (b : ℕ) → list_all (is_given n) (map fence_of slots) ≡ true → waits_below n (fence_in_slots first slots b) ≡ true
waits-at n first slots b h = elim (cases_Bool (nat_le first b)) [
  | inl yes' ↦ rw yes' (waits-given n (fence_of (slice_index_or slots (b - first) Away)) (given-at n slots (b - first) h))
  | inr no' ↦ rw no' refl
]

waits-listed : (n : ℕ) (f : ℕ → Place) (g : ℕ → Option ℕ) (a k : ℕ) (home : List Parked) → ((b : ℕ) → waits_below n (g b) ≡ true) → map resting home ≡ listed f g a k → list_all (has_made_waiter n) home ≡ true
waits-listed n f g a zero [] waits h = refl
waits-listed n f g a zero (p ∷ home) waits h = absurd (cc)
waits-listed n f g a (suc k) home waits h = elim (cases_Bool (is_at (f a) Pool)) [
  | inl here ↦ (
      let h' : map resting home ≡ record { buffer = a; fence = g a } ∷ listed f g (a + 1) k = rw here at h in
      first home h' (λ rest others. waits-listed n f g (a + 1) k rest waits others)
      )
  | inr gone ↦ (
      let h' : map resting home ≡ listed f g (a + 1) k = rw gone at h in
      waits-listed n f g (a + 1) k home waits h'
      )
]
  where
    first : (home : List Parked) → map resting home ≡ record { buffer = a; fence = g a } ∷ listed f g (a + 1) k → ((rest : List Parked) → map resting rest ≡ listed f g (a + 1) k → list_all (has_made_waiter n) rest ≡ true) → list_all (has_made_waiter n) home ≡ true
    first [] h each = absurd (cc)
    first (p ∷ rest) h each =
        let one : resting p ≡ record { buffer = a; fence = g a } = cc in
        let others : map resting rest ≡ listed f g (a + 1) k = cc in
        let fence : p.waiter ≡ g a = ap (λ (x : Resting). x.fence) one in
        rw (fence, waits a) (each rest others)

pub streams-wait : (n first : ℕ) (streams : List Stream) (slots : List Slot) → AreKept first streams slots → list_all (is_given n) (map fence_of slots) ≡ true → list_all (waits_for_made n) streams ≡ true
streams-wait n first streams slots kept given = go streams (λ k s at. kept.stocked k s at)
  where
    go : (xs : List Stream) → ((k : ℕ) (s : Stream) → slice_get xs k ≡ Some s → IsStocked first slots s) → list_all (waits_for_made n) xs ≡ true
    go [] each = refl
    go (s ∷ xs) each =
        let one = waits-listed n (place_in_slots first slots) (fence_in_slots first slots) s.made.first.0 s.made.count s.pool.home (λ b. waits-at n first slots b given) (each 0 s refl).home in
        rw one (go xs (λ k t at. each (suc k) t at))
