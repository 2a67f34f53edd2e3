-- A buffer moves: what is kept for it is written, and its stream's pool may change.
use Rattle.std.proofs.Common.{◌≡◌, ℕ, zero, suc, ◌+◌, ◌-◌, ◌<◌, ◌≤◌, Bool, true, false, nat_le, nat_lt, List, [], ◌∷◌, Option, Some, refl, sym, ◌∙◌, ap, subst, arith, map, length, inl, inr, eq-eqb}
use Rattle.std.specs.Prelude.{slice_get, slice_set}
use Rattle.std.proofs.lemmas.Bool.{and_parts, cases_eq}
use Rattle.std.proofs.lemmas.Bool.Decides.{nat_tests}
use Rattle.std.proofs.lemmas.List.{length-set}
use Rattle.cam_types.specs.Picture.{length_in}
use Rattle.cam_types.specs.Profile.{pool_size}
use Rattle.cam_types.specs.Refusals.{is_raw, is_yuv}
use Rattle.cam_types.specs.Shown.{Shown}
use Rattle.cam_types.specs.declared.profile.Profile.{Profile}
use Rattle.cam_types.specs.declared.reply.Made.{Made}
use Rattle.cam_types.specs.declared.stream.Format.{Format}
use Rattle.cam_types.specs.declared.stream.StreamSpec.{StreamSpec}
use Rattle.buffer_pool.specs.Blocks.{Stock, block_length}
use Rattle.fill_jobs.specs.Buffers.{IsBufferFor}
use Rattle.trace_model.specs.Configuration.{is_made}
use Rattle.trace_model.specs.Place.{Pool, is_at}
use Rattle.buffer_manager.specs.declared.stream.Stream.{Stream}
use Rattle.buffer_manager.specs.declared.slot.Slot.{Slot}
use Rattle.buffer_manager.specs.Slots.{fence_number, fence_of, is_buffer_of, is_sound, place_of, slot_at}
use Rattle.buffer_manager.specs.Kept.{AreKept, AreLent, IsStocked, count_for}
use Rattle.buffer_manager.specs.Managed.{IsBufferAt}
use Rattle.buffer_manager.proofs.Lists.{get-here, get-mapped, get-other, set-same}
use Rattle.buffer_manager.proofs.Spots.{listed-alike, slot-here, slot-other}
use Rattle.buffer_manager.proofs.Turns.{follow-set, one-owner}

-- the buffer is one of the stream's
pub record Owns (s : Stream) (b : ℕ) : Type 0 where
  pub low : s.made.first.0 ≤ b
  pub high : b < s.made.first.0 + s.made.count

-- what a stream holds is the same where another's buffer moves
stocked-outside : (first : ℕ) (slots : List Slot) (t : Stream) (b : ℕ) (v : Slot) → first ≤ b → (Owns t b → ⊥) → IsStocked first slots t → IsStocked first (slice_set slots (b - first) v) t
stocked-outside first slots t b v low outside kept = record {
  spec = kept.spec;
  low = kept.low;
  count = kept.count;
  home = kept.home ∙ sym (listed-alike (λ c. place_of (slot_at first slots c)) (λ c. place_of (slot_at first (slice_set slots (b - first) v) c)) (λ c. fence_number (fence_of (slot_at first slots c))) (λ c. fence_number (fence_of (slot_at first (slice_set slots (b - first) v) c))) t.made.first.0 t.made.count (λ c l h. (ap (λ x. is_at (place_of x) Pool) (same c l h), ap (λ x. fence_number (fence_of x)) (same c l h))));
  own = kept.own;
  offered = kept.offered;
  sound = λ c l h. ap (is_sound t.spec c) (same c l h) ∙ kept.sound c l h;
}
  where
    same : (c : ℕ) → t.made.first.0 ≤ c → c < t.made.first.0 + t.made.count → slot_at first (slice_set slots (b - first) v) c ≡ slot_at first slots c
    same c l h = slot-other first slots b c v low (λ is. outside (record { low = subst (λ x. t.made.first.0 ≤ x) is l; high = subst (λ x. x < t.made.first.0 + t.made.count) is h }))

-- a stream with another pool
abbrev pub with_pool : Stream → Stream → Type 0
with_pool s t = (t.made ≡ s.made) × (t.spec ≡ s.spec)

-- one stream's buffer moves, and its pool changes with it
pub kept-moved : (first : ℕ) (streams : List Stream) (slots : List Slot) (k : ℕ) (s t : Stream) (b : ℕ) (v : Slot) → AreKept first streams slots → slice_get streams k ≡ Some s → Owns s b → first ≤ b → t.made ≡ s.made → IsStocked first (slice_set slots (b - first) v) t → AreKept first (slice_set streams k t) (slice_set slots (b - first) v)
kept-moved first streams slots k s t b v kept at owns low made here = record {
  stocked = stocked;
  in_turn = rw (length-set slots (b - first) v) (follow-set (first + length slots) first streams k s t at made ∙ kept.in_turn);
}
  where
    stocked : (j : ℕ) (u : Stream) → slice_get (slice_set streams k t) j ≡ Some u → IsStocked first (slice_set slots (b - first) v) u
    stocked j u at-j = elim (cases_eq j k) [
      | inl same ↦ (
          let now : slice_get (slice_set streams k t) k ≡ Some u = subst (λ x. slice_get (slice_set streams k t) x ≡ Some u) same at-j in
          let is : t ≡ u = some-same (sym (get-here streams k s t at) ∙ now) in
          subst (λ x. IsStocked first (slice_set slots (b - first) v) x) is here
          )
      | inr other ↦ (
          let old : slice_get streams j ≡ Some u = sym (get-other streams k j t other) ∙ at-j in
          stocked-outside first slots u b v low (λ o. other (one-owner (first + length slots) first streams j k u s b kept.in_turn old at o.low o.high owns.low owns.high)) (kept.stocked j u old)
          )
    ]
      where
        some-same : {x y : Stream} → ◌≡◌ {A = Option Stream} (Some x) (Some y) → x ≡ y
        some-same h = cc

-- the same where the pool stays
pub kept-same : (first : ℕ) (streams : List Stream) (slots : List Slot) (k : ℕ) (s : Stream) (b : ℕ) (v : Slot) → AreKept first streams slots → slice_get streams k ≡ Some s → Owns s b → first ≤ b → IsStocked first (slice_set slots (b - first) v) s → AreKept first streams (slice_set slots (b - first) v)
kept-same first streams slots k s b v kept at owns low here =
    subst (λ x. AreKept first x (slice_set slots (b - first) v)) (set-same streams k s at) (kept-moved first streams slots k s s b v kept at owns low refl here)

-- a buffer that isn't at home goes elsewhere: its stream's pool stays
pub stocked-away : (first : ℕ) (slots : List Slot) (s : Stream) (b : ℕ) (v : Slot) → first ≤ b → b - first < length slots → is_at (place_of (slot_at first slots b)) Pool ≡ false → is_at (place_of v) Pool ≡ false → fence_of (slot_at first slots b) ≡ fence_of v → is_sound s.spec b v ≡ true → IsStocked first slots s → IsStocked first (slice_set slots (b - first) v) s
stocked-away first slots s b v low within was is fence sound kept = record {
  spec = kept.spec;
  low = kept.low;
  count = kept.count;
  home = kept.home ∙ sym (listed-alike (λ c. place_of (slot_at first slots c)) (λ c. place_of (slot_at first (slice_set slots (b - first) v) c)) (λ c. fence_number (fence_of (slot_at first slots c))) (λ c. fence_number (fence_of (slot_at first (slice_set slots (b - first) v) c))) s.made.first.0 s.made.count (λ c l h. alike c));
  own = kept.own;
  offered = kept.offered;
  sound = λ c l h. elim (cases_eq c b) [
    | inl same ↦ subst (λ x. is_sound s.spec x (slot_at first (slice_set slots (b - first) v) x) ≡ true) (sym same) (ap (is_sound s.spec b) here ∙ sound)
    | inr other ↦ ap (is_sound s.spec c) (slot-other first slots b c v low other) ∙ kept.sound c l h
  ];
}
  where
    here : slot_at first (slice_set slots (b - first) v) b ≡ v
    here = slot-here first slots b v low within

    alike : (c : ℕ) → (is_at (place_of (slot_at first (slice_set slots (b - first) v) c)) Pool ≡ is_at (place_of (slot_at first slots c)) Pool) × (fence_number (fence_of (slot_at first (slice_set slots (b - first) v) c)) ≡ fence_number (fence_of (slot_at first slots c)))
    alike c = elim (cases_eq c b) [
      | inl same ↦ subst (λ x. (is_at (place_of (slot_at first (slice_set slots (b - first) v) x)) Pool ≡ is_at (place_of (slot_at first slots x)) Pool) × (fence_number (fence_of (slot_at first (slice_set slots (b - first) v) x)) ≡ fence_number (fence_of (slot_at first slots x)))) (sym same) (
        ap (λ x. is_at (place_of x) Pool) here ∙ (is ∙ sym was),
        ap (λ x. fence_number (fence_of x)) here ∙ ap fence_number (sym fence),
      )
      | inr other ↦ (ap (λ x. is_at (place_of x) Pool) (slot-other first slots b c v low other), ap (λ x. fence_number (fence_of x)) (slot-other first slots b c v low other))
    ]

-- what a contract says of a stream and its buffer
pub record Found (streams : List Stream) (k b : ℕ) : Type 0 where
  pub stream : Stream
  pub at : slice_get streams k ≡ Some stream
  pub owns : Owns stream b

pub owner : (streams : List Stream) (k b : ℕ) → (made : Made) × (slice_get (map (λ (s : Stream). s.made) streams) k ≡ Some made) × (is_made b made ≡ true) → Found streams k b
owner streams k b own =
    let got = get-mapped (λ (s : Stream). s.made) streams k own.0 own.1 in
    let s = got.0 in
    let is : is_made b s.made ≡ true = ap (λ m. is_made b m) got.2 ∙ own.2 in
    let parts = and_parts (nat_le s.made.first.0 b) (nat_lt b (s.made.first.0 + s.made.count)) is in record {
      stream = s;
      at = got.1;
      owns = record { low = grind (arith, nat_tests, parts.0); high = grind (arith, nat_tests, parts.1) };
    }

-- the pixels are the stream's, as a clause says it
pub whole-is : (spec : StreamSpec) (pixels : Shown) → IsBufferFor spec pixels.id pixels → is_buffer_of spec pixels.id.0 pixels ≡ true
whole-is spec pixels is = rw (eq-eqb pixels.id.0 pixels.id.0 refl, eq-eqb (length pixels.bytes) (length_in spec.format spec.width spec.height) is.bytes, eq-eqb pixels.block (block_length spec.format) is.block) refl

pub whole-at : (streams : List Stream) (k : ℕ) (s : Stream) (pixels : Shown) → slice_get streams k ≡ Some s → IsBufferAt (slice_get (map (λ (s : Stream). s.spec) streams) k) pixels → is_buffer_of s.spec pixels.id.0 pixels ≡ true
whole-at [] k s pixels at whole = absurd (cc)
whole-at (t ∷ streams) zero s pixels at whole = (let same : t ≡ s = cc in subst (λ (x : Stream). is_buffer_of x.spec pixels.id.0 pixels ≡ true) same (whole-is t.spec pixels whole))
whole-at (t ∷ streams) (suc k) s pixels at whole = whole-at streams k s pixels at whole

-- the blocks stay with the streams
pub count-set : (p : Format → Bool) (streams : List Stream) (k : ℕ) (s t : Stream) → slice_get streams k ≡ Some s → t.made ≡ s.made → t.spec ≡ s.spec → count_for p (slice_set streams k t) ≡ count_for p streams
count-set p [] k s t at made spec = refl
count-set p (x ∷ streams) zero s t at made spec =
    let same : x ≡ s = cc in
    let made' : t.made ≡ x.made = made ∙ ap (λ (y : Stream). y.made) (sym same) in
    let spec' : t.spec ≡ x.spec = spec ∙ ap (λ (y : Stream). y.spec) (sym same) in
    rw (made', spec') refl
count-set p (x ∷ streams) (suc k) s t at made spec = rw (count-set p streams k s t at made spec) refl

pub lent-set : (profile : Profile) (streams : List Stream) (blocks : Stock) (k : ℕ) (s t : Stream) → slice_get streams k ≡ Some s → t.made ≡ s.made → t.spec ≡ s.spec → AreLent profile streams blocks → AreLent profile (slice_set streams k t) blocks
lent-set profile streams blocks k s t at made spec kept = record {
  raw = kept.raw ∙ sym (count-set is_raw streams k s t at made spec);
  yuv = kept.yuv ∙ sym (count-set is_yuv streams k s t at made spec);
  all_raw = kept.all_raw;
  all_yuv = kept.all_yuv;
  sizes = sizes;
}
  where
    some-same : {x y : Stream} → ◌≡◌ {A = Option Stream} (Some x) (Some y) → x ≡ y
    some-same h = cc

    sizes : (j : ℕ) (u : Stream) → slice_get (slice_set streams k t) j ≡ Some u → u.made.count ≡ pool_size profile u.spec.format
    sizes j u at-j = elim (cases_eq j k) [
      | inl same ↦ (
          let now : slice_get (slice_set streams k t) k ≡ Some u = subst (λ x. slice_get (slice_set streams k t) x ≡ Some u) same at-j in
          let is : t ≡ u = some-same (sym (get-here streams k s t at) ∙ now) in
          let old = kept.sizes k s at in
          let here : t.made.count ≡ pool_size profile t.spec.format = ap (λ (m : Made). m.count) made ∙ (old ∙ ap (λ (x : StreamSpec). pool_size profile x.format) (sym spec)) in
          subst (λ (x : Stream). x.made.count ≡ pool_size profile x.spec.format) is here
          )
      | inr other ↦ kept.sizes j u (sym (get-other streams k j t other) ∙ at-j)
    ]
