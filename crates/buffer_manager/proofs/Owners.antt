-- The stream to which a buffer belongs, and a buffer that comes home to it.
use Rattle.std.proofs.Common.{◌≡◌, ℕ, suc, ◌+◌, ◌-◌, ◌<◌, ◌≤◌, ◌==◌, Bool, true, false, nat_le, nat_lt, List, [], ◌∷◌, ◌++◌, Option, Some, None, refl, sym, ◌∙◌, ap, subst, arith, length, inl, inr}
use Rattle.std.specs.Prelude.{◌^◌, IfSome, filter, find, is_some, slice_get, slice_set, if◌then◌else◌}
use Rattle.std.specs.List.{position_from, range_with_len}
use Rattle.std.proofs.lemmas.Bool.{and_parts, cases_Bool, eqb-true}
use Rattle.std.proofs.lemmas.Bool.Decides.{nat_tests}
use Rattle.basic_lemmas.proofs.Ranges.{range-more}
use Rattle.std.specs.Option.{option_map}
use Rattle.cam_types.specs.declared.profile.Profile.{Profile}
use Rattle.cam_types.specs.declared.reply.Made.{Made}
use Rattle.buffer_pool.specs.Blocks.{Stock}
use Rattle.buffer_pool.specs.Parked.{number}
use Rattle.buffer_pool.specs.declared.parked.Parked.{Parked}
use Rattle.trace_model.specs.Configuration.{is_made}
use Rattle.trace_model.specs.Place.{Pool, Device, is_at}
use Rattle.state_facts.specs.Homes.{Homes, at_device_in, least_in, place_in}
use Rattle.buffer_manager.specs.declared.slot.Slot.{Slot}
use Rattle.buffer_manager.specs.declared.slot.Slot.TheVariants.{Home}
use Rattle.buffer_manager.specs.declared.stream.Stream.{Stream}
use Rattle.buffer_manager.specs.Kept.{AreKept, AreLent, AreTimely, follow, is_own}
use Rattle.buffer_manager.specs.Managed.{away_count, fence_from}
use Rattle.buffer_manager.specs.Slots.{place_of, slot_at}
use Rattle.buffer_manager.specs.Streams.{MayGive, with_given}
use Rattle.buffer_manager.specs.Taking.{least_target_in, target_with_fence}
use Rattle.buffer_manager.proofs.Moves.{Found, Owns, kept-moved, lent-set}
use Rattle.buffer_manager.proofs.Pools.{may-give, stocked-given}
use Rattle.buffer_manager.proofs.Spots.{timely-plain}
use Rattle.buffer_manager.proofs.Turns.{within-turn}

owns-is : (b : ℕ) (s : Stream) → is_made b s.made ≡ true → Owns s b
owns-is b s h =
    let parts = and_parts (nat_le s.made.first.0 b) (nat_lt b (s.made.first.0 + s.made.count)) h in
    record { low = grind (arith, nat_tests, parts.0); high = grind (arith, nat_tests, parts.1) }

found-from : (b i k : ℕ) (streams : List Stream) → position_from (λ (s : Stream). is_made b s.made) i streams ≡ Some k → (j : ℕ) × (k ≡ j + i) × Found streams j b
found-from b i k [] h = absurd (cc)
found-from b i k (s ∷ streams) h = elim (cases_Bool (is_made b s.made)) [
  | inl yes' ↦ (
      let h' : Some i ≡ Some k = rw yes' at h in
      let same : i ≡ k = cc in
      (0, omega (arith, same), record { stream = s; at = refl; owns = owns-is b s yes' })
      )
  | inr no' ↦ (
      let h' : position_from (λ (s : Stream). is_made b s.made) (i + 1) streams ≡ Some k = rw no' at h in
      let rest = found-from b (i + 1) k streams h' in
      let at = rest.1 in (
        suc rest.0,
        omega (arith, at),
        record { stream = rest.2.stream; at = rest.2.at; owns = rest.2.owns },
      )
      )
]

pub stream-found : (b k : ℕ) (streams : List Stream) → position_from (λ (s : Stream). is_made b s.made) 0 streams ≡ Some k → Found streams k b
stream-found b k streams h =
    let all = found-from b 0 k streams h in
    let at = all.1 in
    let same : all.0 ≡ k = omega (arith, at) in
    subst (λ x. Found streams x b) same all.2

-- each buffer belongs to a stream
pub stream-there : (end n b i : ℕ) (streams : List Stream) → follow end n streams ≡ true → n ≤ b → b < end → position_from (λ (s : Stream). is_made b s.made) i streams ≡ None → ⊥
stream-there end n b i [] turn low high h = (let same = eqb-true end n turn in absurd (omega (arith, same, low, high)))
stream-there end n b i (s ∷ streams) turn low high h =
    let parts = and_parts (s.made.first.0 == n) (follow end (n + s.made.count) streams) turn in
    let first = eqb-true s.made.first.0 n parts.0 in
    elim (cases_Bool (is_made b s.made)) [
      | inl yes' ↦ (let h' : Some i ≡ None = rw yes' at h in absurd (cc))
      | inr no' ↦ (
          let h' : position_from (λ (s : Stream). is_made b s.made) (i + 1) streams ≡ None = rw no' at h in
          let one : nat_le s.made.first.0 b ≡ true = grind (arith, nat_tests, first, low) in
          let not-two : nat_lt b (s.made.first.0 + s.made.count) ≡ false = rw one at no' in
          let past : n + s.made.count ≤ b = grind (arith, nat_tests, not-two, first) in
          stream-there end (n + s.made.count) b (i + 1) streams parts.1 past high h'
          )
    ]

-- a buffer that isn't at home comes home
pub record Returned (first b k : ℕ) (streams : List Stream) (slots : List Slot) (late : List Bool) (profile : Profile) (blocks : Stock) (p : Parked) (s : Stream) : Type 0 where
  pub may : MayGive p (slice_get streams k)
  pub kept : AreKept first (slice_set streams k (with_given p s)) (slice_set slots (b - first) (Home (fence_from p.waiter)))
  pub timely : AreTimely late (slice_set slots (b - first) (Home (fence_from p.waiter)))
  pub lent : AreLent profile (slice_set streams k (with_given p s)) blocks

pub returned : (first b k : ℕ) (streams : List Stream) (slots : List Slot) (late : List Bool) (profile : Profile) (blocks : Stock) (p : Parked) (found : Found streams k b) → number p ≡ b → AreKept first streams slots → AreTimely late slots → AreLent profile streams blocks → first ≤ b → b - first < length slots → is_at (place_of (slot_at first slots b)) Pool ≡ false → is_own found.stream.spec p ≡ true → Returned first b k streams slots late profile blocks p found.stream
returned first b k streams slots late profile blocks p found same kept timely lent low within away own =
    let s = found.stream in
    let stocked = kept.stocked k found.stream found.at in
    let owns : Owns found.stream (number p) = subst (λ x. Owns found.stream x) (sym same) found.owns in
    let away' : is_at (place_of (slot_at first slots (number p))) Pool ≡ false = subst (λ x. is_at (place_of (slot_at first slots x)) Pool ≡ false) (sym same) away in
    let low' : first ≤ number p = omega (arith, low, same) in
    let within' : number p - first < length slots = omega (arith, within, same) in
    let given = stocked-given first slots found.stream p stocked owns low' within' away' own in
    let given' = subst (λ x. AreKept first (slice_set streams k (with_given p found.stream)) (slice_set slots (x - first) (Home (fence_from p.waiter)))) same (kept-moved first streams slots k found.stream (with_given p found.stream) (number p) (Home (fence_from p.waiter)) kept found.at owns low' refl given) in
    record {
      may = subst (λ o. MayGive p o) (sym found.at) (may-give first slots found.stream p stocked owns away');
      kept = given';
      timely = timely-plain late slots (b - first) (Home (fence_from p.waiter)) timely within refl refl;
      lent = lent-set profile streams blocks k found.stream (with_given p found.stream) found.at refl refl lent;
    }

-- ---- how many are away

filter-one : (p : ℕ → Bool) (xs : List ℕ) (y : ℕ) → length (filter p (xs ++ y ∷ [])) ≡ length (filter p xs) + (if p y then 1 else 0)
filter-one p [] y = elim (cases_Bool (p y)) [
  | inl yes' ↦ rw yes' refl
  | inr no' ↦ rw no' refl
]
filter-one p (x ∷ xs) y =
    let rest = filter-one p xs y in
    elim (cases_Bool (p x)) [
      | inl yes' ↦ rw yes' (omega (arith, rest))
      | inr no' ↦ rw no' rest
    ]

pub away-more : (homes : Homes) (a n : ℕ) → away_count homes a (n + 1) ≡ away_count homes a n + (if is_at (place_in homes (a + n)) Device then 1 else 0)
away-more homes a n =
    ap (λ xs. length (filter (λ b. is_at (place_in homes b) Device) xs)) (range-more a n 1) ∙ filter-one (λ b. is_at (place_in homes b) Device) (range_with_len a n) (a + n)

-- ---- what is read of a stream

made-within : (end n : ℕ) (streams : List Stream) (k : ℕ) (made : Made) → follow end n streams ≡ true → option_map (λ (s : Stream). s.made) (slice_get streams k) ≡ Some made → made.first.0 + made.count ≤ end
made-within end n streams k made turn is = go (slice_get streams k) refl is
  where
    go : (o : Option Stream) → slice_get streams k ≡ o → option_map (λ (s : Stream). s.made) o ≡ Some made → made.first.0 + made.count ≤ end
    go (Some s) at h =
        let same : s.made ≡ made = cc in
        subst (λ (x : Made). x.first.0 + x.count ≤ end) same (within-turn end n streams k s turn at).1
    go None at h = absurd (cc)

-- the numbers of a stream's buffers fit
pub made-fits : (end n : ℕ) (streams : List Stream) (k : ℕ) (o : Option Made) → follow end n streams ≡ true → end < 2 ^ 32 → o ≡ option_map (λ (s : Stream). s.made) (slice_get streams k) → IfSome o (λ made. made.first.0 + made.count ≤ 2 ^ 32)
made-fits end n streams k (Some made) turn fits is =
    let high = made-within end n streams k made turn (sym is) in
    omega (arith, high)
made-fits end n streams k None turn fits is = tt

pub counted-device : (homes : Homes) (s : ℕ) (made : Made) → slice_get homes.made s ≡ Some made → away_count homes made.first.0 made.count ≡ at_device_in homes s
counted-device homes s made at = rw at refl

pub counted-none : (homes : Homes) (s : ℕ) → slice_get homes.made s ≡ None → 0 ≡ at_device_in homes s
counted-none homes s at = rw at refl

-- ---- the least at home

find-append : (p : ℕ → Bool) (xs ys : List ℕ) → find p xs ≡ None → find p (xs ++ ys) ≡ find p ys
find-append p [] ys none = refl
find-append p (x ∷ xs) ys none = elim (cases_Bool (p x)) [
  | inl yes' ↦ (let none' : Some x ≡ None = rw yes' at none in absurd (cc))
  | inr no' ↦ (let none' : find p xs ≡ None = rw no' at none in rw no' (find-append p xs ys none'))
]

-- the first that passes, after some that don't
pub find-at : (p : ℕ → Bool) (a k n : ℕ) → k < n → find p (range_with_len a k) ≡ None → p (a + k) ≡ true → find p (range_with_len a n) ≡ Some (a + k)
find-at p a k n less none yes' =
    let rest = n - k - 1 in
    let sum' : k + suc (n - k - 1) ≡ n = omega (arith, less) in
    ap (λ x. find p (range_with_len a x)) (sym sum') ∙ (ap (find p) (range-more a k (suc (n - k - 1))) ∙ (find-append p (range_with_len a k) (range_with_len (a + k) (suc (n - k - 1))) none ∙ rw yes' refl))

pub find-more : (p : ℕ → Bool) (a k : ℕ) → find p (range_with_len a k) ≡ None → p (a + k) ≡ false → find p (range_with_len a (k + 1)) ≡ None
find-more p a k none no' =
    ap (find p) (range-more a k 1) ∙ (find-append p (range_with_len a k) (range_with_len (a + k) 1) none ∙ rw no' refl)

some-target : (homes : Homes) (s : ℕ) (o : Option ℕ) → is_some (target_with_fence homes s o) ≡ is_some o
some-target homes s (Some b) = refl
some-target homes s None = refl

-- a stream has a buffer at home exactly where one is found
pub some-least : (homes : Homes) (s : ℕ) (made : Made) → slice_get homes.made s ≡ Some made → is_some (find (λ b. is_at (place_in homes b) Pool) (range_with_len made.first.0 made.count)) ≡ is_some (least_target_in homes s)
some-least homes s made at =
    let one : find (λ b. is_at (place_in homes b) Pool) (range_with_len made.first.0 made.count) ≡ least_in homes s = rw at refl in
    ap is_some one ∙ sym (some-target homes s (least_in homes s))

pub none-least : (homes : Homes) (s : ℕ) → slice_get homes.made s ≡ None → false ≡ is_some (least_target_in homes s)
none-least homes s at =
    let one : least_in homes s ≡ None = rw at refl in
    sym (some-target homes s (least_in homes s) ∙ ap is_some one)
