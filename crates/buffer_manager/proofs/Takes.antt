-- A stream's least buffer at home goes to the device.
use Rattle.std.proofs.Common.{◌≡◌, ℕ, zero, suc, ◌+◌, ◌-◌, ◌<◌, ◌≤◌, ◌==◌, ◌&&◌, Bool, true, nat_le, List, [], ◌∷◌, Option, Some, None, refl, sym, ◌∙◌, ap, subst, arith, map, length, drop, inl, inr}
use Rattle.std.specs.Prelude.{IfNone, IfSome, find, slice_get, slice_set, slice_index_or}
use Rattle.std.specs.List.{list_all, range_with_len}
use Rattle.std.specs.Option.{option_map}
use Rattle.std.proofs.lemmas.Bool.{and_parts, cases_Bool, cases_eq, eqb-true}
use Rattle.std.proofs.lemmas.Bool.Decides.{nat_tests}
use Rattle.std.proofs.lemmas.List.{get_or-map}
use Rattle.cam_types.specs.declared.number.FenceNo.{FenceNo}
use Rattle.cam_types.specs.declared.profile.Profile.{Profile}
use Rattle.cam_types.specs.Picture.{length_in}
use Rattle.cam_types.specs.declared.stream.StreamSpec.{StreamSpec}
use Rattle.buffer_pool.specs.Blocks.{Stock, block_length}
use Rattle.buffer_pool.specs.Parked.{number}
use Rattle.buffer_pool.specs.declared.parked.Parked.{Parked}
use Rattle.trace_model.specs.declared.entry.Sent.{Sent}
use Rattle.trace_model.specs.Place.{Place, Pool, is_at}
use Rattle.state_facts.specs.Homes.{Homes, fence_in, least_in, place_in}
use Rattle.buffer_manager.specs.Resting.{Resting, listed, resting}
use Rattle.buffer_manager.proofs.Resting.{take_is}
use Rattle.buffer_manager.specs.declared.slot.Slot.{Slot}
use Rattle.buffer_manager.specs.declared.slot.Slot.TheVariants.{Away}
use Rattle.buffer_manager.specs.declared.stream.Stream.{Stream}
use Rattle.buffer_manager.specs.Kept.{AreKept, AreLent, AreTimely, IsStocked, is_own}
use Rattle.buffer_manager.specs.Managed.{fence_from}
use Rattle.buffer_manager.specs.Slots.{fence_number, fence_of, is_sound, place_of, slot_at}
use Rattle.buffer_manager.specs.Streams.{with_home}
use Rattle.buffer_manager.specs.Taking.{IsTakenWith, least_target_in, target_with_fence}
use Rattle.buffer_manager.proofs.Lists.{get-other}
use Rattle.buffer_manager.proofs.Moves.{Owns, kept-moved, lent-set}
use Rattle.buffer_manager.proofs.Pools.{but, fence_in_slots, place_in_slots}
use Rattle.buffer_manager.proofs.Spots.{slot-here, slot-other, timely-plain}
use Rattle.buffer_manager.proofs.Turns.{within-turn}

-- the first of those that are listed
pub record IsFirst (f : ℕ → Place) (g : ℕ → Option ℕ) (a n : ℕ) (p : Parked) : Type 0 where
  pub least : find (λ b. is_at (f b) Pool) (range_with_len a n) ≡ Some (number p)
  pub fence : p.waiter ≡ g (number p)
  pub home : is_at (f (number p)) Pool ≡ true
  pub low : a ≤ number p
  pub high : number p < a + n

first-listed : (f : ℕ → Place) (g : ℕ → Option ℕ) (a n : ℕ) (p : Parked) (rest : List Resting) → resting p ∷ rest ≡ listed f g a n → IsFirst f g a n p
first-listed f g a zero p rest h = absurd (cc)
first-listed f g a (suc n) p rest h = elim (cases_Bool (is_at (f a) Pool)) [
  | inl home ↦ (
      let h' : resting p ∷ rest ≡ record { buffer = a; fence = g a } ∷ listed f g (a + 1) n = rw home at h in
      let one : resting p ≡ record { buffer = a; fence = g a } = cc in
      let at : number p ≡ a = ap (λ (x : Resting). x.buffer) one in
      let fence : p.waiter ≡ g a = ap (λ (x : Resting). x.fence) one in record {
        least = rw home (ap Some (sym at));
        fence = fence ∙ ap g (sym at);
        home = ap (λ x. is_at (f x) Pool) at ∙ home;
        low = omega (arith, at);
        high = omega (arith, at);
      }
      )
  | inr gone ↦ (
      let h' : resting p ∷ rest ≡ listed f g (a + 1) n = rw gone at h in
      let later = first-listed f g (a + 1) n p rest h' in
      let l = later.low in
      let u = later.high in record {
        least = rw gone later.least;
        fence = later.fence;
        home = later.home;
        low = omega (arith, l);
        high = omega (arith, u);
      }
      )
]

none-listed : (f : ℕ → Place) (g : ℕ → Option ℕ) (a n : ℕ) → [] ≡ listed f g a n → find (λ b. is_at (f b) Pool) (range_with_len a n) ≡ None
none-listed f g a zero h = refl
none-listed f g a (suc n) h = elim (cases_Bool (is_at (f a) Pool)) [
  | inl home ↦ (let h' : [] ≡ record { buffer = a; fence = g a } ∷ listed f g (a + 1) n = rw home at h in absurd (cc))
  | inr gone ↦ (let h' : [] ≡ listed f g (a + 1) n = rw gone at h in rw gone (none-listed f g (a + 1) n h'))
]

find-where : (p q : ℕ → Bool) (a n : ℕ) → ((b : ℕ) → a ≤ b → b < a + n → p b ≡ q b) → find p (range_with_len a n) ≡ find q (range_with_len a n)
find-where p q a zero same = refl
find-where p q a (suc n) same =
    let here = same a (omega arith) (omega arith) in
    let rest = find-where p q (a + 1) n (λ b l h. same b (omega (arith, l)) (omega (arith, h))) in
    rw (here, rest) refl

-- a state of the trace that sees these streams and slots
pub record IsSeen (homes : Homes) (first : ℕ) (streams : List Stream) (slots : List Slot) : Type 0 where
  pub made : homes.made ≡ map (λ (s : Stream). s.made) streams
  pub first_is : homes.first ≡ first
  pub places : homes.places ≡ map place_of slots
  pub fences : homes.fences ≡ map fence_of slots

-- the least buffer at home as a target, read off the pools
abbrev pub sent_for : ℕ → Option Parked → Option Sent
sent_for k (Some p) = Some (record { stream = record { 0 = k }; buffer = p.pixels.id; fence = fence_from p.waiter })
sent_for k None = None

abbrev pub target_for : ℕ → Option Stream → Option Sent
target_for k (Some s) = sent_for k (slice_get s.pool.home 0)
target_for k None = None

back-from : (o : Option FenceNo) → fence_from (fence_number o) ≡ o
back-from (Some f) = refl
back-from None = refl

place-agrees : (homes : Homes) (first : ℕ) (streams : List Stream) (slots : List Slot) (b : ℕ) → IsSeen homes first streams slots → first ≤ b → b - first < length slots → place_in homes b ≡ place_of (slot_at first slots b)
place-agrees homes first streams slots b seen low within =
    let yes' : nat_le first b ≡ true = grind (arith, nat_tests, low) in
    rw (seen.first_is, seen.places, yes') (get_or-map place_of slots (b - first) Away Pool within)

fence-agrees : (homes : Homes) (first : ℕ) (streams : List Stream) (slots : List Slot) (b : ℕ) → IsSeen homes first streams slots → first ≤ b → b - first < length slots → fence_in homes b ≡ fence_of (slot_at first slots b)
fence-agrees homes first streams slots b seen low within =
    let yes' : nat_le first b ≡ true = grind (arith, nat_tests, low) in
    rw (seen.first_is, seen.fences, yes') (get_or-map fence_of slots (b - first) Away None within)

module _ (homes : Homes) (first : ℕ) (streams : List Stream) (slots : List Slot) (seen : IsSeen homes first streams slots) (kept : AreKept first streams slots) where
  in-range : (k : ℕ) (s : Stream) (b : ℕ) → slice_get streams k ≡ Some s → s.made.first.0 ≤ b → b < s.made.first.0 + s.made.count → (first ≤ b) × (b - first < length slots)
  in-range k s b at low high =
      let turn = within-turn (first + length slots) first streams k s kept.in_turn at in
      let one = turn.0 in
      let two = turn.1 in
      (omega (arith, low, one), omega (arith, low, high, one, two))

  stream-is : (k : ℕ) (s : Stream) → slice_get streams k ≡ Some s → slice_get homes.made k ≡ Some s.made
  stream-is k s at = rw seen.made (got streams k s at)
    where
      got : (xs : List Stream) (k : ℕ) (s : Stream) → slice_get xs k ≡ Some s → slice_get (map (λ (s : Stream). s.made) xs) k ≡ Some s.made
      got [] k s h = absurd (cc)
      got (x ∷ xs) zero s h = (let same : x ≡ s = cc in ap (λ (y : Stream). Some y.made) same)
      got (x ∷ xs) (suc k) s h = got xs k s h

  no-stream : (k : ℕ) → slice_get streams k ≡ None → slice_get homes.made k ≡ None
  no-stream k at = rw seen.made (got streams k at)
    where
      got : (xs : List Stream) (k : ℕ) → slice_get xs k ≡ None → slice_get (map (λ (s : Stream). s.made) xs) k ≡ None
      got [] k h = refl
      got (x ∷ xs) zero h = absurd (cc)
      got (x ∷ xs) (suc k) h = got xs k h

  found-as : (k : ℕ) (s : Stream) → slice_get streams k ≡ Some s → least_in homes k ≡ find (λ b. is_at (place_in_slots first slots b) Pool) (range_with_len s.made.first.0 s.made.count)
  found-as k s at =
      rw (stream-is k s at) (find-where (λ b. is_at (place_in homes b) Pool) (λ b. is_at (place_in_slots first slots b) Pool) s.made.first.0 s.made.count (λ b l h. (let r = in-range k s b at l h in ap (λ p. is_at p Pool) (place-agrees homes first streams slots b seen r.0 r.1))))

  -- the least of a stream is the first of its pool
  pub least-is : (k : ℕ) → least_target_in homes k ≡ target_for k (slice_get streams k)
  least-is k = by-stream (slice_get streams k) refl
    where
      by-pool : (s : Stream) (home : List Parked) → slice_get streams k ≡ Some s → s.pool.home ≡ home → least_target_in homes k ≡ sent_for k (slice_get home 0)
      by-pool s [] at is =
          let stocked = kept.stocked k s at in
          let none = none-listed (place_in_slots first slots) (fence_in_slots first slots) s.made.first.0 s.made.count (ap (map resting) (sym is) ∙ stocked.home) in
          ap (target_with_fence homes k) (found-as k s at ∙ none)
      by-pool s (p ∷ rest) at is =
          let stocked = kept.stocked k s at in
          let one = first-listed (place_in_slots first slots) (fence_in_slots first slots) s.made.first.0 s.made.count p (map resting rest) (ap (map resting) (sym is) ∙ stocked.home) in
          let r = in-range k s (number p) at one.low one.high in
          let fence = fence-agrees homes first streams slots (number p) seen r.0 r.1 in
          let same : fence_in homes (number p) ≡ fence_from p.waiter = fence ∙ (sym (back-from (fence_of (slot_at first slots (number p)))) ∙ ap fence_from (sym one.fence)) in
          ap (target_with_fence homes k) (found-as k s at ∙ one.least) ∙ ap (λ (o : Option FenceNo). sent o p) same
        where
          sent : Option FenceNo → Parked → Option Sent
          sent o q = Some (record { stream = record { 0 = k }; buffer = record { 0 = number q }; fence = o })

      by-stream : (o : Option Stream) → slice_get streams k ≡ o → least_target_in homes k ≡ target_for k o
      by-stream (Some s) at = by-pool s s.pool.home at refl
      by-stream None at = rw (no-stream k at) refl

-- what a call that takes from a pool says
pub record IsTakenFrom (streams new : List Stream) (k : ℕ) (p : Parked) : Type 0 where
  pub stream : Stream
  pub rest : List Parked
  pub at : slice_get streams k ≡ Some stream
  pub home : stream.pool.home ≡ p ∷ rest
  pub left : new ≡ slice_set streams k (with_home rest stream)

pub taken-some : (streams new : List Stream) (k : ℕ) (r : Option Parked) (p : Parked) → r ≡ Some p → IfSome (slice_get streams k) (λ s. r ≡ slice_get s.pool.home 0) → IfSome (slice_get streams k) (λ s. new ≡ slice_set streams k (with_home (drop 1 s.pool.home) s)) → (IfNone (slice_get streams k) (r ≡ None)) → IsTakenFrom streams new k p
taken-some streams new k r p is value left none = go (slice_get streams k) refl value left none
  where
    by-home : (s : Stream) (home : List Parked) → s.pool.home ≡ home → slice_get streams k ≡ Some s → r ≡ slice_get home 0 → new ≡ slice_set streams k (with_home (drop 1 home) s) → IsTakenFrom streams new k p
    by-home s [] same at v l = absurd (cc)
    by-home s (q ∷ rest) same at v l =
        let first : q ≡ p = cc in
        record { stream = s; rest = rest; at = at; home = same ∙ ap (λ (x : Parked). x ∷ rest) first; left = l }

    go : (o : Option Stream) → slice_get streams k ≡ o → IfSome o (λ s. r ≡ slice_get s.pool.home 0) → IfSome o (λ s. new ≡ slice_set streams k (with_home (drop 1 s.pool.home) s)) → IfNone o (r ≡ None) → IsTakenFrom streams new k p
    go (Some s) at v l n = by-home s s.pool.home refl at v l
    go None at v l n = absurd (cc)

-- ---- the step

pub record IsMoved (first : ℕ) (streams new : List Stream) (slots : List Slot) (late : List Bool) (profile : Profile) (blocks : Stock) (k : ℕ) (p : Parked) : Type 0 where
  pub low : first ≤ number p
  pub within : number p - first < length slots
  pub home : is_at (place_of (slice_index_or slots (number p - first) Away)) Pool ≡ true
  pub fence : fence_of (slice_index_or slots (number p - first) Away) ≡ fence_from p.waiter
  pub kept : AreKept first new (slice_set slots (number p - first) Away)
  pub timely : AreTimely late (slice_set slots (number p - first) Away)
  pub lent : AreLent profile new blocks

stocked-taken : (first : ℕ) (slots : List Slot) (s : Stream) (p : Parked) (rest : List Parked) → IsStocked first slots s → first ≤ number p → number p - first < length slots → s.pool.home ≡ p ∷ rest → IsStocked first (slice_set slots (number p - first) Away) (with_home rest s)
stocked-taken first slots s p rest kept low within is = record {
  spec = kept.spec;
  low = kept.low;
  count = kept.count;
  home = take_is (number p) (place_in_slots first slots) (place_in_slots first (slice_set slots (number p - first) Away)) (fence_in_slots first slots) (fence_in_slots first (slice_set slots (number p - first) Away)) s.made.first.0 s.made.count p rest (but first slots (number p) Away low) (ap (λ x. is_at (place_of x) Pool) here) refl (ap (map resting) (sym is) ∙ kept.home);
  own = (and_parts (is_own s.spec p) (list_all (is_own s.spec) rest) (ap (list_all (is_own s.spec)) (sym is) ∙ kept.own)).1;
  offered = kept.offered;
  sound = λ c l h. elim (cases_eq c (number p)) [
    | inl same ↦ subst (λ x. is_sound s.spec x (slot_at first (slice_set slots (number p - first) Away) x) ≡ true) (sym same) (ap (is_sound s.spec (number p)) here)
    | inr other ↦ ap (is_sound s.spec c) (slot-other first slots (number p) c Away low other) ∙ kept.sound c l h
  ];
}
  where
    here : slot_at first (slice_set slots (number p - first) Away) (number p) ≡ Away
    here = slot-here first slots (number p) Away low within

-- a stream's least buffer goes away
pub moved-away : (first : ℕ) (streams new : List Stream) (slots : List Slot) (late : List Bool) (profile : Profile) (blocks : Stock) (k : ℕ) (p : Parked) → AreKept first streams slots → AreTimely late slots → AreLent profile streams blocks → IsTakenFrom streams new k p → IsMoved first streams new slots late profile blocks k p
moved-away first streams new slots late profile blocks k p kept timely lent taken =
    let s = taken.stream in
    let stocked = kept.stocked k taken.stream taken.at in
    let one = first-listed (place_in_slots first slots) (fence_in_slots first slots) taken.stream.made.first.0 taken.stream.made.count p (map resting taken.rest) (ap (map resting) (sym taken.home) ∙ stocked.home) in
    let turn = within-turn (first + length slots) first streams k taken.stream kept.in_turn taken.at in
    let l = one.low in
    let h = one.high in
    let t = turn.0 in
    let u = turn.1 in
    let low : first ≤ number p = omega (arith, l, t) in
    let within : number p - first < length slots = omega (arith, l, h, t, u) in
    let yes' : nat_le first (number p) ≡ true = grind (arith, nat_tests, low) in
    let at : slot_at first slots (number p) ≡ slice_index_or slots (number p - first) Away = rw yes' refl in
    let owns : Owns taken.stream (number p) = record { low = one.low; high = one.high } in
    let made = kept-moved first streams slots k taken.stream (with_home taken.rest taken.stream) (number p) Away kept taken.at owns low refl (stocked-taken first slots taken.stream p taken.rest stocked low within taken.home) in record {
      low = low;
      within = within;
      home = ap (λ x. is_at (place_of x) Pool) (sym at) ∙ one.home;
      fence = ap fence_of (sym at) ∙ (sym (back-from (fence_of (slot_at first slots (number p)))) ∙ ap fence_from (sym one.fence));
      kept = subst (λ x. AreKept first x (slice_set slots (number p - first) Away)) (sym taken.left) made;
      timely = timely-plain late slots (number p - first) Away timely within refl refl;
      lent = subst (λ x. AreLent profile x blocks) (sym taken.left) (lent-set profile streams blocks k taken.stream (with_home taken.rest taken.stream) taken.at refl refl lent);
    }

pub none-for : (streams : List Stream) (k : ℕ) (r : Option Parked) → r ≡ None → IfSome (slice_get streams k) (λ s. r ≡ slice_get s.pool.home 0) → target_for k (slice_get streams k) ≡ None
none-for streams k r none value = go (slice_get streams k) value
  where
    go : (o : Option Stream) → IfSome o (λ s. r ≡ slice_get s.pool.home 0) → target_for k o ≡ None
    go (Some s) v = ap (sent_for k) (sym v ∙ none)
    go None v = refl

pub waiter-is : (o : Option ℕ) → o ≡ option_map (λ (f : FenceNo). f.0) (fence_from o)
waiter-is (Some f) = refl
waiter-is None = refl

pub taken-with : (spec : StreamSpec) (k : ℕ) (p : Parked) → is_own spec p ≡ true → IsTakenWith spec (record { stream = record { 0 = k }; buffer = p.pixels.id; fence = fence_from p.waiter }) p
taken-with spec k p own =
    let parts = and_parts (p.pixels.id.0 == p.pixels.id.0) ((length p.pixels.bytes == length_in spec.format spec.width spec.height) && (p.pixels.block == block_length spec.format)) own in
    let parts' = and_parts (length p.pixels.bytes == length_in spec.format spec.width spec.height) (p.pixels.block == block_length spec.format) parts.1 in record {
      pixels = record {
        id = refl;
        bytes = eqb-true (length p.pixels.bytes) (length_in spec.format spec.width spec.height) parts'.0;
        block = eqb-true p.pixels.block (block_length spec.format) parts'.1;
      };
      waiter = waiter-is p.waiter;
    }

pub own-first : (spec : StreamSpec) (home rest : List Parked) (p : Parked) → home ≡ p ∷ rest → list_all (is_own spec) home ≡ true → is_own spec p ≡ true
own-first spec home rest p is all = (and_parts (is_own spec p) (list_all (is_own spec) rest) (ap (list_all (is_own spec)) (sym is) ∙ all)).0

-- the least buffers of the other streams stay
pub others-stay : (homes homes' : Homes) (first : ℕ) (streams new : List Stream) (slots slots' : List Slot) (k : ℕ) (p : Parked) → IsSeen homes first streams slots → IsSeen homes' first new slots' → AreKept first streams slots → AreKept first new slots' → IsTakenFrom streams new k p → (s : ℕ) → (s ≡ k → ⊥) → least_target_in homes' s ≡ least_target_in homes s
others-stay homes homes' first streams new slots slots' k p seen seen' kept kept' taken s other =
    let same : slice_get new s ≡ slice_get streams s = ap (λ (x : List Stream). slice_get x s) taken.left ∙ get-other streams k s (with_home taken.rest taken.stream) other in
    least-is homes' first new slots' seen' kept' s ∙ (ap (target_for s) same ∙ sym (least-is homes first streams slots seen kept s))
