-- Pools are closed.
use Rattle.std.proofs.Common.{◌≡◌, ℕ, zero, suc, ◌+◌, ◌-◌, ◌<◌, ◌≤◌, ◌==◌, ◌&&◌, ◌⊎◌, Bool, true, false, nat_le, nat_lt, if◌then◌else◌, List, [], ◌∷◌, ◌++◌, Option, Some, refl, sym, ◌∙◌, ap, subst, arith, map, length, inl, inr}
use Rattle.std.specs.Prelude.{slice_get, slice_index_or}
use Rattle.std.specs.List.{list_all, list_any}
use Rattle.std.proofs.lemmas.Bool.{and_parts, cases_Bool, cases_eq, eqb-true, false≢true}
use Rattle.std.proofs.lemmas.Bool.Decides.{nat_tests}
use Rattle.basic_lemmas.proofs.Lists.{all-where, any-mapped, get-last}
use Rattle.cam_types.specs.Picture.{is_size_of, length_in}
use Rattle.cam_types.specs.Refusals.{is_raw, is_yuv}
use Rattle.cam_types.specs.declared.stream.Format.{Format}
use Rattle.cam_types.specs.declared.stream.Format.TheVariants.{Raw16, Yuv, Other}
use Rattle.cam_types.specs.declared.stream.StreamSpec.{StreamSpec}
use Rattle.buffer_pool.specs.Blocks.{Stock, block_length, lent_of, with_returned}
use Rattle.buffer_pool.specs.Home.{is_home, is_of}
use Rattle.buffer_pool.specs.Opened.{is_whole}
use Rattle.buffer_pool.specs.Parked.{number}
use Rattle.buffer_pool.specs.declared.parked.Parked.{Parked}
use Rattle.trace_model.specs.Place.{Place, Pool, is_at}
use Rattle.buffer_manager.specs.Resting.{Resting, listed, resting}
use Rattle.buffer_manager.specs.declared.slot.Slot.{Slot}
use Rattle.buffer_manager.specs.declared.slot.Slot.TheVariants.{Away}
use Rattle.buffer_manager.specs.declared.stream.Stream.{Stream}
use Rattle.buffer_manager.specs.Closing.{AreClosable, AreCounted, IsClosable, SameTotal, homes_only}
use Rattle.buffer_manager.specs.Kept.{AreKept, count_for, is_own}
use Rattle.buffer_manager.specs.Managed.{is_given}
use Rattle.buffer_manager.specs.Slots.{fence_of, place_of}
use Rattle.buffer_manager.specs.Streams.{waits_for_made}
use Rattle.buffer_manager.proofs.Ends.{streams-wait}
use Rattle.buffer_manager.proofs.Pools.{fence_in_slots, place_in_slots}
use Rattle.buffer_manager.proofs.Turns.{within-turn}

pub get-front : {X : Type 0} (xs ys : List X) (k : ℕ) (x : X) → slice_get xs k ≡ Some x → slice_get (xs ++ ys) k ≡ Some x
get-front [] ys k x h = absurd (cc)
get-front (z ∷ xs) ys zero x h = h
get-front (z ∷ xs) ys (suc k) x h = get-front xs ys k x h

-- an element of a list with one more
pub get-more : {X : Type 0} (xs : List X) (x : X) (k : ℕ) (y : X) → slice_get (xs ++ x ∷ []) k ≡ Some y → (slice_get xs k ≡ Some y) ⊎ (x ≡ y)
get-more [] x zero y h = (let same : x ≡ y = cc in inr same)
get-more [] x (suc k) y h = absurd (cc)
get-more (z ∷ xs) x zero y h = inl h
get-more (z ∷ xs) x (suc k) y h = get-more xs x k y h

pub count-more : (p : Format → Bool) (xs : List Stream) (s : Stream) → count_for p (xs ++ s ∷ []) ≡ count_for p xs + (if p s.spec.format then s.made.count else 0)
count-more p [] s = omega arith
count-more p (x ∷ xs) s = (let rest = count-more p xs s in rw rest (omega arith))

-- a stream's blocks come back
pub record IsBack (n : ℕ) (f : Format) (ys : List Stream) (blocks : Stock) : Type 0 where
  pub lent : n ≤ lent_of f blocks
  pub counted : AreCounted ys (with_returned f n blocks)
  pub total : SameTotal blocks (with_returned f n blocks)

closed-one : (f : Format) (n w h : ℕ) (zs ys : List Stream) (blocks : Stock) → is_size_of f w h ≡ true → count_for is_raw zs ≡ count_for is_raw ys + (if is_raw f then n else 0) → count_for is_yuv zs ≡ count_for is_yuv ys + (if is_yuv f then n else 0) → AreCounted zs blocks → IsBack n f ys blocks
closed-one Raw16 n w h zs ys blocks offered raw yuv kept =
    let r = kept.raw in
    let y = kept.yuv in
    record { lent = omega (arith, raw, r); counted = record { raw = omega (arith, raw, r); yuv = omega (arith, yuv, y) }; total = record { raw = omega (arith, raw, r); yuv = refl } }
closed-one Yuv n w h zs ys blocks offered raw yuv kept =
    let r = kept.raw in
    let y = kept.yuv in
    record { lent = omega (arith, yuv, y); counted = record { raw = omega (arith, raw, r); yuv = omega (arith, yuv, y) }; total = record { raw = refl; yuv = omega (arith, yuv, y) } }
closed-one (Other k) n w h zs ys blocks offered raw yuv kept = absurd (false≢true offered)

pub back-one : (made : ℕ) (zs ys : List Stream) (s : Stream) (blocks : Stock) → zs ≡ ys ++ s ∷ [] → AreClosable made zs → AreCounted zs blocks → IsBack s.pool.count s.pool.spec.format ys blocks
back-one made zs ys s blocks is closable kept =
    let one = closable (length ys) s (ap (λ (z : List Stream). slice_get z (length ys)) is ∙ get-last ys s) in
    let back = closed-one s.spec.format s.made.count s.spec.width s.spec.height zs ys blocks one.offered (ap (count_for is_raw) is ∙ count-more is_raw ys s) (ap (count_for is_yuv) is ∙ count-more is_yuv ys s) kept in
    subst (λ (spec : StreamSpec). IsBack s.pool.count spec.format ys blocks) (sym one.spec) (subst (λ n. IsBack n s.spec.format ys blocks) (sym one.count) back)

pub closable-last : (made : ℕ) (zs ys : List Stream) (s : Stream) → zs ≡ ys ++ s ∷ [] → AreClosable made zs → IsClosable made s
closable-last made zs ys s is closable = closable (length ys) s (ap (λ (z : List Stream). slice_get z (length ys)) is ∙ get-last ys s)

pub closable-front : (made : ℕ) (zs ys : List Stream) (s : Stream) → zs ≡ ys ++ s ∷ [] → AreClosable made zs → AreClosable made ys
closable-front made zs ys s is closable k t at = closable k t (ap (λ (z : List Stream). slice_get z k) is ∙ get-front ys (s ∷ []) k t at)

pub same-total : (a b c : Stock) → SameTotal a b → SameTotal b c → SameTotal a c
same-total a b c x y = record { raw = y.raw ∙ x.raw; yuv = y.yuv ∙ x.yuv }

pub counted-none : (xs : List Stream) (blocks : Stock) → xs ≡ [] → AreCounted xs blocks → AreCounted [] blocks
counted-none xs blocks is kept = record { raw = kept.raw ∙ ap (count_for is_raw) is; yuv = kept.yuv ∙ ap (count_for is_yuv) is }

-- ---- all are at home

listed-has : (f : ℕ → Place) (g : ℕ → Option ℕ) (a n b : ℕ) → is_at (f b) Pool ≡ true → a ≤ b → b < a + n → list_any (λ (r : Resting). r.buffer == b) (listed f g a n) ≡ true
listed-has f g a zero b home low high = absurd (omega (arith, low, high))
listed-has f g a (suc n) b home low high = elim (cases_eq a b) [
  | inl same ↦ (
      let here : is_at (f a) Pool ≡ true = ap (λ x. is_at (f x) Pool) same ∙ home in
      let yes' : (a == b) ≡ true = grind (arith, nat_tests, same) in
      rw (here, yes') refl
      )
  | inr other ↦ (
      let rest = listed-has f g (a + 1) n b home (omega (arith, low, other)) (omega (arith, high)) in
      elim (cases_Bool (is_at (f a) Pool)) [
        | inl here ↦ (
            let no' : (a == b) ≡ false = elim (cases_Bool (a == b)) [ inl y ↦ absurd (other (eqb-true a b y)) | inr n' ↦ n' ] in
            rw (here, no') rest
            )
        | inr gone ↦ rw gone rest
      ]
      )
]

home-at : (slots : List Slot) (i : ℕ) → list_all (λ (p : Place). is_at p Pool) (map place_of slots) ≡ true → i < length slots → is_at (place_of (slice_index_or slots i Away)) Pool ≡ true
home-at [] i h less = absurd (omega (arith, less))
home-at (v ∷ slots) zero h less = (and_parts (is_at (place_of v) Pool) (list_all (λ (p : Place). is_at p Pool) (map place_of slots)) h).0
home-at (v ∷ slots) (suc i) h less = home-at slots i (and_parts (is_at (place_of v) Pool) (list_all (λ (p : Place). is_at p Pool) (map place_of slots)) h).1 (omega (arith, less))

pub homes-are : (slots : List Slot) → list_all (λ (p : Place). is_at p Pool) (map place_of slots) ≡ true → homes_only slots ≡ true
homes-are [] h = refl
homes-are (v ∷ slots) h =
    let parts = and_parts (is_at (place_of v) Pool) (list_all (λ (p : Place). is_at p Pool) (map place_of slots)) h in
    rw parts.0 (homes-are slots parts.1)

whole-own : (spec : StreamSpec) (p : Parked) → is_own spec p ≡ true → is_whole spec.format p ≡ true
whole-own spec p own =
    let parts = and_parts (p.pixels.id.0 == number p) ((length p.pixels.bytes == length_in spec.format spec.width spec.height) && (p.pixels.block == block_length spec.format)) own in
    (and_parts (length p.pixels.bytes == length_in spec.format spec.width spec.height) (p.pixels.block == block_length spec.format) parts.1).1

wait-at : (n : ℕ) (xs : List Stream) (k : ℕ) (s : Stream) → list_all (waits_for_made n) xs ≡ true → slice_get xs k ≡ Some s → waits_for_made n s ≡ true
wait-at n [] k s h at = absurd (cc)
wait-at n (x ∷ xs) zero s h at = (let same : x ≡ s = cc in ap (waits_for_made n) (sym same) ∙ (and_parts (waits_for_made n x) (list_all (waits_for_made n) xs) h).0)
wait-at n (x ∷ xs) (suc k) s h at = wait-at n xs k s (and_parts (waits_for_made n x) (list_all (waits_for_made n) xs) h).1 at

pub all-closable : (n first : ℕ) (streams : List Stream) (slots : List Slot) → AreKept first streams slots → list_all (λ (p : Place). is_at p Pool) (map place_of slots) ≡ true → list_all (is_given n) (map fence_of slots) ≡ true → AreClosable n streams
all-closable n first streams slots kept home given k s at =
    let stocked = kept.stocked k s at in
    let turn = within-turn (first + length slots) first streams k s kept.in_turn at in record {
      spec = stocked.spec;
      count = stocked.count;
      offered = stocked.offered;
      waiters = wait-at n streams k s (streams-wait n first streams slots kept given) at;
      home = all-here;
      whole = all-where (is_own s.spec) (is_whole s.spec.format) s.pool.home (λ p own. whole-own s.spec p own) stocked.own;
    }
  where
    all-here : (b : ℕ) → is_of s.pool b ≡ true → is_home b s.pool.home ≡ true
    all-here b of =
        let stocked = kept.stocked k s at in
        let turn = within-turn (first + length slots) first streams k s kept.in_turn at in
        let parts = and_parts (nat_le s.pool.first b) (nat_lt b (s.pool.first + s.pool.count)) of in
        let low' = stocked.low in
        let count' = stocked.count in
        let low : s.made.first.0 ≤ b = grind (arith, nat_tests, parts.0, low') in
        let high : b < s.made.first.0 + s.made.count = grind (arith, nat_tests, parts.1, low', count') in
        let t = turn.0 in
        let u = turn.1 in
        let first-low : first ≤ b = omega (arith, low, t) in
        let within : b - first < length slots = omega (arith, low, high, t, u) in
        let yes' : nat_le first b ≡ true = grind (arith, nat_tests, first-low) in
        let here : is_at (place_in_slots first slots b) Pool ≡ true = rw yes' (home-at slots (b - first) home within) in
        sym (any-mapped (λ (r : Resting). r.buffer == b) resting s.pool.home) ∙ (ap (list_any (λ (r : Resting). r.buffer == b)) stocked.home ∙ listed-has (place_in_slots first slots) (fence_in_slots first slots) s.made.first.0 s.made.count b here low high)
