-- Pools are opened.
use Rattle.std.proofs.Common.{◌≡◌, ℕ, zero, suc, ◌+◌, ◌-◌, ◌*◌, ◌<◌, ◌≤◌, ◌==◌, ◌&&◌, ◌||◌, ◌⊎◌, Bool, true, not, nat_le, nat_lt, if◌then◌else◌, List, [], ◌∷◌, ◌++◌, Option, Some, None, refl, sym, ◌∙◌, ap, subst, arith, map, length, inl, inr, eq-eqb}
use Rattle.std.specs.Prelude.{count_by, is_none, replicate, slice_get, slice_index_or}
use Rattle.std.specs.List.{list_all, range_with_len}
use Rattle.std.proofs.lemmas.Bool.{and_parts, cases_Bool, eqb-true, false≢true}
use Rattle.std.proofs.lemmas.Bool.Decides.{nat_tests}
use Rattle.std.proofs.lemmas.List.{get_or-append_right, get_or-replicate, get_or_append_left, length-append, length-replicate}
use Rattle.std.proofs.lemmas.List.Sums.{sum_by-cons}
use Rattle.basic_lemmas.proofs.Lists.{all-where-both}
use Rattle.cam_types.specs.Picture.{is_offered, is_size_of}
use Rattle.cam_types.specs.Profile.{is_profile, is_profile_number, pool_size}
use Rattle.cam_types.specs.Refusals.{is_raw, is_yuv}
use Rattle.cam_types.specs.declared.profile.Profile.{Profile}
use Rattle.cam_types.specs.declared.stream.Format.{Format}
use Rattle.cam_types.specs.declared.stream.Format.TheVariants.{Raw16, Yuv, Other}
use Rattle.cam_types.specs.declared.stream.StreamSpec.{StreamSpec}
use Rattle.buffer_pool.specs.Blocks.{Stock, free_of, with_lent}
use Rattle.buffer_pool.specs.Opened.{IsOpened, has_no_waiter, is_whole, shows_picture}
use Rattle.buffer_pool.specs.Parked.{number}
use Rattle.buffer_pool.specs.declared.parked.Parked.{Parked}
use Rattle.trace_model.specs.Place.{Place, Pool, is_at}
use Rattle.buffer_manager.specs.Resting.{Resting, listed, resting}
use Rattle.buffer_manager.specs.declared.slot.Slot.{Slot}
use Rattle.buffer_manager.specs.declared.slot.Slot.TheVariants.{Home, Away}
use Rattle.buffer_manager.specs.declared.stream.Stream.{Stream}
use Rattle.buffer_manager.specs.Kept.{AreKept, AreLent, AreTimely, IsStocked, count_for, follow, is_own}
use Rattle.buffer_manager.specs.Managed.{has_room_for}
use Rattle.buffer_manager.specs.Slots.{awaited_of, fence_number, fence_of, is_sound, is_timely, place_of, slot_at}
use Rattle.buffer_manager.proofs.Closes.{count-more, get-more}
use Rattle.buffer_manager.proofs.Pools.{fence_in_slots, place_in_slots}
use Rattle.buffer_manager.proofs.Spots.{listed-alike}
use Rattle.buffer_manager.proofs.Turns.{within-turn}

abbrev pub fresh : ℕ → List Slot
fresh n = replicate n (Home None)

-- ---- the slots of the new stream

pub slot-old : (first : ℕ) (slots : List Slot) (n b : ℕ) → b < first + length slots → slot_at first (slots ++ fresh n) b ≡ slot_at first slots b
slot-old first slots n b high = elim (cases_Bool (nat_le first b)) [
  | inl yes' ↦ (
      let low : first ≤ b = grind (arith, nat_tests, yes') in
      let within : b - first < length slots = omega (arith, low, high) in
      rw yes' (get_or_append_left slots (fresh n) Away (b - first) within)
      )
  | inr no' ↦ rw no' refl
]

pub slot-new : (first : ℕ) (slots : List Slot) (n b : ℕ) → first + length slots ≤ b → b < first + length slots + n → slot_at first (slots ++ fresh n) b ≡ Home None
slot-new first slots n b low high =
    let yes' : nat_le first b ≡ true = grind (arith, nat_tests, low) in
    let past : length slots ≤ b - first = omega (arith, low) in
    let within : b - first - length slots < n = omega (arith, low, high) in
    rw yes' (get_or-append_right slots (fresh n) (length slots) (b - first) Away refl past ∙ get_or-replicate n (b - first - length slots) (Home None) Away within)

fresh-listed : (f : ℕ → Place) (g : ℕ → Option ℕ) (a n : ℕ) (home : List Parked) → ((b : ℕ) → a ≤ b → b < a + n → (is_at (f b) Pool ≡ true) × (g b ≡ None)) → map number home ≡ range_with_len a n → list_all has_no_waiter home ≡ true → map resting home ≡ listed f g a n
fresh-listed f g a zero [] each numbers none = refl
fresh-listed f g a zero (p ∷ home) each numbers none = absurd (cc)
fresh-listed f g a (suc n) [] each numbers none = absurd (cc)
fresh-listed f g a (suc n) (p ∷ home) each numbers none =
    let here = each a (omega arith) (omega arith) in
    let at : number p ≡ a = cc in
    let others : map number home ≡ range_with_len (a + 1) n = cc in
    let parts = and_parts (has_no_waiter p) (list_all has_no_waiter home) none in
    let waiter = no-waiter p.waiter parts.0 in
    let rest = fresh-listed f g (a + 1) n home (λ b l h. each b (omega (arith, l)) (omega (arith, h))) others parts.1 in
    rw (here.0, here.1) (ap (λ (x : Resting). x ∷ map resting home) (pair (number p) a p.waiter None at waiter) ∙ ap (λ (xs : List Resting). record { buffer = a; fence = None } ∷ xs) rest)
  where
    no-waiter : (o : Option ℕ) → is_none o ≡ true → o ≡ None
    no-waiter (Some x) h = absurd (false≢true h)
    no-waiter None h = refl

    pair : (x y : ℕ) (s t : Option ℕ) → x ≡ y → s ≡ t → ◌≡◌ {A = Resting} (record { buffer = x; fence = s }) (record { buffer = y; fence = t })
    pair x y s t e h = rw (e, h) refl

own-fresh : (spec : StreamSpec) (p : Parked) → is_whole spec.format p ≡ true → shows_picture spec p ≡ true → is_own spec p ≡ true
own-fresh spec p whole shown = rw (eq-eqb p.pixels.id.0 p.pixels.id.0 refl, shown, whole) refl

pub new-stocked : (first : ℕ) (slots : List Slot) (n : ℕ) (t : Stream) → is_offered t.spec ≡ true → t.made.first.0 ≡ first + length slots → t.made.count ≡ n → IsOpened t.spec t.made.first.0 t.made.count t.pool → IsStocked first (slots ++ fresh n) t
new-stocked first slots n t offered at count is = record {
  spec = is.spec_is;
  low = is.first_is;
  count = is.count_is;
  home = fresh-listed (place_in_slots first (slots ++ fresh n)) (fence_in_slots first (slots ++ fresh n)) t.made.first.0 t.made.count t.pool.home (λ b l h. (ap (λ x. is_at (place_of x) Pool) (new b l h), ap (λ x. fence_number (fence_of x)) (new b l h))) is.fresh.numbers is.fresh.unfenced;
  own = all-where-both (is_whole t.spec.format) (shows_picture t.spec) (is_own t.spec) t.pool.home (λ p w s. own-fresh t.spec p w s) is.fresh.whole is.fresh.shown;
  offered = offered;
  sound = λ b l h. ap (is_sound t.spec b) (new b l h);
}
  where
    new : (b : ℕ) → t.made.first.0 ≤ b → b < t.made.first.0 + t.made.count → slot_at first (slots ++ fresh n) b ≡ Home None
    new b l h = slot-new first slots n b (omega (arith, l, at)) (omega (arith, h, at, count))

old-stocked : (first : ℕ) (slots : List Slot) (n : ℕ) (s : Stream) → s.made.first.0 + s.made.count ≤ first + length slots → IsStocked first slots s → IsStocked first (slots ++ fresh n) s
old-stocked first slots n s within kept = record {
  spec = kept.spec;
  low = kept.low;
  count = kept.count;
  home = kept.home ∙ sym (listed-alike (place_in_slots first slots) (place_in_slots first (slots ++ fresh n)) (fence_in_slots first slots) (fence_in_slots first (slots ++ fresh n)) s.made.first.0 s.made.count (λ b l h. (ap (λ x. is_at (place_of x) Pool) (same b h), ap (λ x. fence_number (fence_of x)) (same b h))));
  own = kept.own;
  offered = kept.offered;
  sound = λ b l h. ap (is_sound s.spec b) (same b h) ∙ kept.sound b l h;
}
  where
    same : (b : ℕ) → b < s.made.first.0 + s.made.count → slot_at first (slots ++ fresh n) b ≡ slot_at first slots b
    same b h = slot-old first slots n b (omega (arith, h, within))

follow-more : (end low : ℕ) (streams : List Stream) (t : Stream) → follow end low streams ≡ true → t.made.first.0 ≡ end → follow (end + t.made.count) low (streams ++ t ∷ []) ≡ true
follow-more end low [] t h at =
    let same = eqb-true end low h in
    let one : (t.made.first.0 == low) ≡ true = grind (arith, nat_tests, same, at) in
    let two : (end + t.made.count == low + t.made.count) ≡ true = grind (arith, nat_tests, same) in
    rw (one, two) refl
follow-more end low (s ∷ streams) t h at =
    let parts = and_parts (s.made.first.0 == low) (follow end (low + s.made.count) streams) h in
    rw parts.0 (follow-more end (low + s.made.count) streams t parts.1 at)

pub kept-more : (first : ℕ) (streams : List Stream) (slots : List Slot) (n : ℕ) (t : Stream) → AreKept first streams slots → is_offered t.spec ≡ true → t.made.first.0 ≡ first + length slots → t.made.count ≡ n → IsOpened t.spec t.made.first.0 t.made.count t.pool → AreKept first (streams ++ t ∷ []) (slots ++ fresh n)
kept-more first streams slots n t kept offered at count is = record { stocked = stocked; in_turn = in_turn }
  where
    stocked : (k : ℕ) (u : Stream) → slice_get (streams ++ t ∷ []) k ≡ Some u → IsStocked first (slots ++ fresh n) u
    stocked k u h = elim (get-more streams t k u h) [
      | inl old ↦ old-stocked first slots n u (within-turn (first + length slots) first streams k u kept.in_turn old).1 (kept.stocked k u old)
      | inr same ↦ subst (λ x. IsStocked first (slots ++ fresh n) x) same (new-stocked first slots n t offered at count is)
    ]

    in_turn : follow (first + length (slots ++ fresh n)) first (streams ++ t ∷ []) ≡ true
    in_turn =
        let long = length-append slots (fresh n) ∙ ap (λ x. length slots + x) (length-replicate n (Home None)) in
        let same : first + length (slots ++ fresh n) ≡ first + length slots + t.made.count = omega (arith, long, count) in
        rw same (follow-more (first + length slots) first streams t kept.in_turn at)

-- ---- device fences

grown : (slots : List Slot) (n i : ℕ) → (slice_index_or (slots ++ fresh n) i Away ≡ slice_index_or slots i Away) ⊎ (slice_index_or (slots ++ fresh n) i Away ≡ Home None)
grown [] zero i = inl refl
grown [] (suc n) zero = inr refl
grown [] (suc n) (suc i) = grown [] n i
grown (v ∷ slots) n zero = inl refl
grown (v ∷ slots) n (suc i) = grown slots n i

pub timely-grown : (late : List Bool) (slots : List Slot) (n : ℕ) → AreTimely late slots → AreTimely late (slots ++ fresh n)
timely-grown late slots n kept = record { timely = timely; apart = λ i j d at-i at-j. kept.apart i j d (old i d at-i) (old j d at-j) }
  where
    timely : (i : ℕ) → is_timely late (slice_index_or (slots ++ fresh n) i Away) ≡ true
    timely i = elim (grown slots n i) [
      | inl same ↦ ap (is_timely late) same ∙ kept.timely i
      | inr new ↦ ap (is_timely late) new
    ]

    never : {d : ℕ} → ◌≡◌ {A = Option ℕ} None (Some d) → ⊥
    never h = absurd (cc)

    old : (i d : ℕ) → awaited_of (slice_index_or (slots ++ fresh n) i Away) ≡ Some d → awaited_of (slice_index_or slots i Away) ≡ Some d
    old i d h = elim (grown slots n i) [
      | inl same ↦ sym (ap awaited_of same) ∙ h
      | inr new ↦ absurd (never (sym (ap awaited_of new) ∙ h))
    ]

-- ---- blocks

pub size-few : (profile : Profile) (f : Format) → is_profile profile ≡ true → pool_size profile f ≤ 18
size-few profile f h =
    let parts = and_parts (is_profile_number profile.depth) (is_profile_number profile.raw && is_profile_number profile.yuv) h in
    let parts' = and_parts (is_profile_number profile.raw) (is_profile_number profile.yuv) parts.1 in
    let raw = and_parts (nat_lt 0 profile.raw) (nat_le profile.raw 16) parts'.0 in
    let yuv = and_parts (nat_lt 0 profile.yuv) (nat_le profile.yuv 16) parts'.1 in
    by-format f (grind (arith, nat_tests, raw.1)) (grind (arith, nat_tests, yuv.1))
  where
    by-format : (g : Format) → profile.raw ≤ 16 → profile.yuv ≤ 16 → pool_size profile g ≤ 18
    by-format Raw16 r y = omega (arith, r)
    by-format Yuv r y = omega (arith, y)
    by-format (Other k) r y = omega arith

-- so many times a number
abbrev times : ℕ → ℕ → ℕ
times zero y = 0
times (suc k) y = y + times k y

count-cons : (p : Format → Bool) (x : StreamSpec) (xs : List StreamSpec) → count_by (λ (s : StreamSpec). p s.format) (x ∷ xs) ≡ (if p x.format then 1 else 0) + count_by (λ (s : StreamSpec). p s.format) xs
count-cons p x xs = sum_by-cons (λ (s : StreamSpec). if p s.format then 1 else 0) x xs

times-is : (p : Format → Bool) (profile : Profile) (f : Format) (streams : List Stream) → ((g : Format) → p g ≡ true → g ≡ f) → ((k : ℕ) (s : Stream) → slice_get streams k ≡ Some s → s.made.count ≡ pool_size profile s.spec.format) → count_for p streams ≡ times (count_by (λ (s : StreamSpec). p s.format) (map (λ (s : Stream). s.spec) streams)) (pool_size profile f)
times-is p profile f [] one sizes = refl
times-is p profile f (s ∷ streams) one sizes =
    let rest = times-is p profile f streams one (λ k t at. sizes (suc k) t at) in
    let more = count-cons p s.spec (map (λ (s : Stream). s.spec) streams) in
    elim (cases_Bool (p s.spec.format)) [
      | inl yes' ↦ (
          let size : s.made.count ≡ pool_size profile f = sizes 0 s refl ∙ ap (pool_size profile) (one s.spec.format yes') in
          let more' : count_by (λ (s : StreamSpec). p s.format) (s.spec ∷ map (λ (s : Stream). s.spec) streams) ≡ suc (count_by (λ (s : StreamSpec). p s.format) (map (λ (s : Stream). s.spec) streams)) = rw yes' at more ∙ one-plus (count_by (λ (s : StreamSpec). p s.format) (map (λ (s : Stream). s.spec) streams)) in
          rw (yes', more') (ap (λ x. x + count_for p streams) size ∙ ap (λ x. pool_size profile f + x) rest)
          )
      | inr no' ↦ (
          let more' : count_by (λ (s : StreamSpec). p s.format) (s.spec ∷ map (λ (s : Stream). s.spec) streams) ≡ count_by (λ (s : StreamSpec). p s.format) (map (λ (s : Stream). s.spec) streams) = rw no' at more ∙ zero-plus (count_by (λ (s : StreamSpec). p s.format) (map (λ (s : Stream). s.spec) streams)) in
          rw (no', more') (zero-plus (count_for p streams) ∙ rest)
          )
    ]
  where
    one-plus : (n : ℕ) → 1 + n ≡ suc n
    one-plus n = omega arith

    zero-plus : (n : ℕ) → 0 + n ≡ n
    zero-plus n = omega arith

only-raw : (g : Format) → is_raw g ≡ true → g ≡ Raw16
only-raw Raw16 h = refl
only-raw Yuv h = absurd (false≢true h)
only-raw (Other k) h = absurd (false≢true h)

only-yuv : (g : Format) → is_yuv g ≡ true → g ≡ Yuv
only-yuv Raw16 h = absurd (false≢true h)
only-yuv Yuv h = refl
only-yuv (Other k) h = absurd (false≢true h)

few-times : (k y : ℕ) → k < 3 → times k y + y ≤ 3 * y
few-times zero y less = omega arith
few-times (suc zero) y less = omega arith
few-times (suc (suc zero)) y less = omega arith
few-times (suc (suc (suc k))) y less = absurd (omega (arith, less))

no-times : (k y : ℕ) → k < 1 → times k y ≡ 0
no-times zero y less = refl
no-times (suc k) y less = absurd (omega (arith, less))

count-as : (p : Format → Bool) (streams : List Stream) (t : Stream) (f : Format) → t.spec.format ≡ f → count_for p (streams ++ t ∷ []) ≡ count_for p streams + (if p f then t.made.count else 0)
count-as p streams t f is = count-more p streams t ∙ ap (λ (g : Format). count_for p streams + (if p g then t.made.count else 0)) is

pub record IsLentTo (profile : Profile) (streams : List Stream) (t : Stream) (blocks : Stock) (n : ℕ) : Type 0 where
  pub free : n ≤ free_of t.spec.format blocks
  pub lent : AreLent profile (streams ++ t ∷ []) (with_lent t.spec.format n blocks)

lent-by : (profile : Profile) (streams : List Stream) (t : Stream) (blocks : Stock) (n : ℕ) (f : Format) → t.spec.format ≡ f → is_size_of f t.spec.width t.spec.height ≡ true → n ≡ pool_size profile f → t.made.count ≡ n → AreLent profile streams blocks → (is_raw f ≡ true → count_by (λ (s : StreamSpec). is_raw s.format) (map (λ (s : Stream). s.spec) streams) < 1) → (is_yuv f ≡ true → count_by (λ (s : StreamSpec). is_yuv s.format) (map (λ (s : Stream). s.spec) streams) < 3) → (n ≤ free_of f blocks) × AreLent profile (streams ++ t ∷ []) (with_lent f n blocks)
lent-by profile streams t blocks n Raw16 is offered size count kept raw yuv =
    let times' = times-is is_raw profile Raw16 streams only-raw kept.sizes ∙ no-times _ (pool_size profile Raw16) (raw refl) in
    let r = kept.raw in
    let y = kept.yuv in
    let a = kept.all_raw in
    let more' : count_for is_raw (streams ++ t ∷ []) ≡ count_for is_raw streams + t.made.count = count-as is_raw streams t Raw16 is in
    let more-yuv' : count_for is_yuv (streams ++ t ∷ []) ≡ count_for is_yuv streams + 0 = count-as is_yuv streams t Raw16 is in (
      omega (arith, times', r, a, size),
      record {
        raw = omega (arith, r, more', count);
        yuv = omega (arith, y, more-yuv');
        all_raw = omega (arith, times', r, a, size);
        all_yuv = kept.all_yuv;
        sizes = λ k u at. elim (get-more streams t k u at) [ inl old ↦ kept.sizes k u old | inr same ↦ subst (λ (x : Stream). x.made.count ≡ pool_size profile x.spec.format) same (count ∙ (size ∙ ap (pool_size profile) (sym is))) ];
      },
    )
lent-by profile streams t blocks n Yuv is offered size count kept raw yuv =
    let times' = times-is is_yuv profile Yuv streams only-yuv kept.sizes in
    let few = few-times (count_by (λ (s : StreamSpec). is_yuv s.format) (map (λ (s : Stream). s.spec) streams)) (pool_size profile Yuv) (yuv refl) in
    let few' : count_for is_yuv streams + pool_size profile Yuv ≤ 3 * pool_size profile Yuv = rw times' few in
    let r = kept.raw in
    let y = kept.yuv in
    let a = kept.all_yuv in
    let more' : count_for is_raw (streams ++ t ∷ []) ≡ count_for is_raw streams + 0 = count-as is_raw streams t Yuv is in
    let more-yuv' : count_for is_yuv (streams ++ t ∷ []) ≡ count_for is_yuv streams + t.made.count = count-as is_yuv streams t Yuv is in (
      omega (arith, few', y, a, size),
      record {
        raw = omega (arith, r, more');
        yuv = omega (arith, y, more-yuv', count);
        all_raw = kept.all_raw;
        all_yuv = omega (arith, few', y, a, size);
        sizes = λ k u at. elim (get-more streams t k u at) [ inl old ↦ kept.sizes k u old | inr same ↦ subst (λ (x : Stream). x.made.count ≡ pool_size profile x.spec.format) same (count ∙ (size ∙ ap (pool_size profile) (sym is))) ];
      },
    )
lent-by profile streams t blocks n (Other k) is offered size count kept raw yuv = absurd (false≢true offered)

pub room-parts : (specs : List StreamSpec) (spec : StreamSpec) → has_room_for specs spec ≡ true → (length specs < 4) × (is_raw spec.format ≡ true → count_by (λ (s : StreamSpec). is_raw s.format) specs < 1) × (is_yuv spec.format ≡ true → count_by (λ (s : StreamSpec). is_yuv s.format) specs < 3)
room-parts specs spec h =
    let parts = and_parts (nat_lt (length specs) 4) ((not (is_raw spec.format) || nat_lt (count_by (λ (s : StreamSpec). is_raw s.format) specs) 1) && (not (is_yuv spec.format) || nat_lt (count_by (λ (s : StreamSpec). is_yuv s.format) specs) 3)) h in
    let parts' = and_parts (not (is_raw spec.format) || nat_lt (count_by (λ (s : StreamSpec). is_raw s.format) specs) 1) (not (is_yuv spec.format) || nat_lt (count_by (λ (s : StreamSpec). is_yuv s.format) specs) 3) parts.1 in (
      grind (arith, nat_tests, parts.0),
      λ is. less (count_by (λ (s : StreamSpec). is_raw s.format) specs) 1 (rw is at parts'.0),
      λ is. less (count_by (λ (s : StreamSpec). is_yuv s.format) specs) 3 (rw is at parts'.1),
    )
  where
    less : (a b : ℕ) → nat_lt a b ≡ true → a < b
    less a b h = grind (arith, nat_tests, h)

pub lent-more : (profile : Profile) (streams : List Stream) (t : Stream) (blocks : Stock) (n : ℕ) → is_offered t.spec ≡ true → n ≡ pool_size profile t.spec.format → t.made.count ≡ n → AreLent profile streams blocks → has_room_for (map (λ (s : Stream). s.spec) streams) t.spec ≡ true → IsLentTo profile streams t blocks n
lent-more profile streams t blocks n offered size count kept room =
    let parts = room-parts (map (λ (s : Stream). s.spec) streams) t.spec room in
    let all = lent-by profile streams t blocks n t.spec.format refl offered size count kept parts.1 parts.2 in
    record { free = all.0; lent = all.1 }

-- ---- the room for slots

pub total-few : (profile : Profile) (end low : ℕ) (streams : List Stream) → is_profile profile ≡ true → follow end low streams ≡ true → ((k : ℕ) (s : Stream) → slice_get streams k ≡ Some s → s.made.count ≡ pool_size profile s.spec.format) → end ≤ low + 18 * length streams
total-few profile end low [] valid h sizes = (let same = eqb-true end low h in omega (arith, same))
total-few profile end low (s ∷ streams) valid h sizes =
    let parts = and_parts (s.made.first.0 == low) (follow end (low + s.made.count) streams) h in
    let rest = total-few profile end (low + s.made.count) streams valid parts.1 (λ k t at. sizes (suc k) t at) in
    let size = sizes 0 s refl in
    let few = size-few profile s.spec.format valid in
    omega (arith, rest, size, few)
