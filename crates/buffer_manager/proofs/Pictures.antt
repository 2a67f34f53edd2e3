-- Buffers that went to the client early, and their device fences.
use Rattle.std.proofs.Common.{◌≡◌, ℕ, ◌-◌, ◌<◌, ◌==◌, ◌&&◌, Bool, true, false, not, nat_lt, List, [], ◌∷◌, ◌++◌, Option, Some, None, refl, sym, ◌∙◌, ap, subst, arith, map, length, inl, inr, eq-eqb}
use Rattle.std.specs.Prelude.{slice_get, slice_set, slice_index_or}
use Rattle.std.proofs.lemmas.Bool.{and_parts, cases_Bool, cases_eq, eqb-true, false≢true}
use Rattle.std.proofs.lemmas.Bool.Decides.{nat_tests}
use Rattle.std.proofs.lemmas.List.{get_or-map, get_or-set_other, get_or-set_same, get_or_append_left, get_or_push, length-set, length_push}
use Rattle.cam_types.specs.Shown.{Shown}
use Rattle.cam_types.specs.declared.number.DeviceFenceNo.{DeviceFenceNo}
use Rattle.cam_types.specs.declared.stream.StreamSpec.{StreamSpec}
use Rattle.trace_model.specs.Place.{Client, is_at}
use Rattle.state_facts.specs.Homes.{Homes, held_in, late_in, place_in, there_in}
use Rattle.buffer_pool.specs.Blocks.{block_length}
use Rattle.cam_types.specs.Picture.{length_in}
use Rattle.buffer_manager.specs.declared.slot.Slot.{Slot}
use Rattle.buffer_manager.specs.declared.slot.Slot.TheVariants.{Home, Away, Filled, Early, Late}
use Rattle.buffer_manager.specs.Slots.{awaited_of, has_picture, held_of, is_buffer_of, is_sound, is_timely, pixels_of, place_of, slot_at}
use Rattle.buffer_manager.specs.Kept.{AreTimely}
use Rattle.std.proofs.lemmas.Option.{get_or_from_slice_get}
use Rattle.buffer_manager.proofs.Spots.{IsOut, client-at, place_at, timely-set}

-- the parts of a device fence whose picture isn't there
pub early-parts : (late : List Bool) (s w : ℕ) → is_timely late (Early s w) ≡ true → (s ≡ w) × (w < length late) × (slice_index_or late w false ≡ false)
early-parts late s w h =
    let parts = and_parts (s == w) (nat_lt w (length late) && not (slice_index_or late w false)) h in
    let parts' = and_parts (nat_lt w (length late)) (not (slice_index_or late w false)) parts.1 in (
      eqb-true s w parts.0,
      grind (arith, nat_tests, parts'.0),
      elim (cases_Bool (slice_index_or late w false)) [
        | inl yes' ↦ absurd (false≢true (sym (ap not yes') ∙ parts'.1))
        | inr no' ↦ no'
      ],
    )

pub late-parts : (late : List Bool) (p : Shown) (w : ℕ) → is_timely late (Late p w) ≡ true → (w < length late) × (slice_index_or late w false ≡ true)
late-parts late p w h =
    let parts = and_parts (nat_lt w (length late)) (slice_index_or late w false) h in
    (grind (arith, nat_tests, parts.0), parts.1)

-- the slot of a buffer whose picture isn't there
pub early-is : (late : List Bool) (v : Slot) (d : DeviceFenceNo) → is_timely late v ≡ true → held_of v ≡ Some d → slice_index_or late d.0 false ≡ false → v ≡ Early d.0 d.0
early-is late (Early s w) d fits held open' =
    let parts = early-parts late s w fits in
    let is : record { 0 = w } ≡ d = cc in
    let same : w ≡ d.0 = ap (λ (x : DeviceFenceNo). x.0) is in
    rw (parts.0, same) refl
early-is late (Late p w) d fits held open' =
    let parts = late-parts late p w fits in
    let is : record { 0 = w } ≡ d = cc in
    let same : w ≡ d.0 = ap (λ (x : DeviceFenceNo). x.0) is in
    absurd (false≢true (sym open' ∙ (ap (λ x. slice_index_or late x false) (sym same) ∙ parts.1)))
early-is late _ d fits held open' = absurd (cc)

pub held-at : (slots : List Slot) (i : ℕ) → i < length slots → slice_index_or (map held_of slots) i None ≡ held_of (slice_index_or slots i Away)
held-at slots i within = get_or-map held_of slots i Away None within

-- a fence that is awaited was made
awaited-made : (late : List Bool) (v : Slot) (d : ℕ) → is_timely late v ≡ true → awaited_of v ≡ Some d → d < length late
awaited-made late (Early s w) d fits h =
    let parts = early-parts late s w fits in
    let same : s ≡ d = cc in
    let at = parts.0 in
    let less = parts.1 in
    omega (arith, same, at, less)
awaited-made late _ d fits h = absurd (cc)

-- one more fence changes nothing of the others
timely-more : (late : List Bool) (v : Slot) → is_timely late v ≡ true → is_timely (late ++ false ∷ []) v ≡ true
timely-more late (Early s w) h =
    let parts = early-parts late s w h in
    let less = parts.1 in
    let more = length_push late false in
    let within : nat_lt w (length (late ++ false ∷ [])) ≡ true = grind (arith, nat_tests, less, more) in
    rw (eq-eqb s w parts.0, within, get_or_append_left late (false ∷ []) false w less, parts.2) refl
timely-more late (Late p w) h =
    let parts = late-parts late p w h in
    let less = parts.0 in
    let more = length_push late false in
    let within : nat_lt w (length (late ++ false ∷ [])) ≡ true = grind (arith, nat_tests, less, more) in
    rw (within, get_or_append_left late (false ∷ []) false w less, parts.1) refl
timely-more late _ h = refl

-- a buffer goes early, with the next device fence
pub timely-early : (late : List Bool) (slots : List Slot) (i : ℕ) → AreTimely late slots → i < length slots → AreTimely (late ++ false ∷ []) (slice_set slots i (Early (length late) (length late)))
timely-early late slots i kept within =
    let more = length_push late false in
    let less : nat_lt (length late) (length (late ++ false ∷ [])) ≡ true = grind (arith, nat_tests, more) in
    timely-set (late ++ false ∷ []) slots i (Early (length late) (length late)) within (λ j other. timely-more late (slice_index_or slots j Away) (kept.timely j)) kept.apart (rw (eq-eqb (length late) (length late) refl, less, get_or_push late false false (length late) refl) refl) (λ d j awaits other h. never d awaits (awaited-made late (slice_index_or slots j Away) d (kept.timely j) h))
  where
    never : (d : ℕ) → ◌≡◌ {A = Option ℕ} (Some (length late)) (Some d) → d < length late → ⊥
    never d h less = (let same : length late ≡ d = cc in omega (arith, same, less))

-- a fence that is signalled changes nothing of those that aren't it
timely-signalled : (late : List Bool) (d : ℕ) (v : Slot) → d < length late → (awaited_of v ≡ Some d → ⊥) → is_timely late v ≡ true → is_timely (slice_set late d true) v ≡ true
timely-signalled late d (Home fence) less other h = refl
timely-signalled late d Away less other h = refl
timely-signalled late d (Filled pixels) less other h = refl
timely-signalled late d (Early s w) less other h =
    let parts = early-parts late s w h in
    let apart : w ≡ d → ⊥ = λ same. other (ap Some (parts.0 ∙ same)) in
    let within : nat_lt w (length late) ≡ true = (let l = parts.1 in grind (arith, nat_tests, l)) in
    rw (eq-eqb s w parts.0, length-set late d true, within, get_or-set_other late d w true false apart, parts.2) refl
timely-signalled late d (Late p w) less other h =
    let parts = late-parts late p w h in
    let within : nat_lt w (length late) ≡ true = (let l = parts.0 in grind (arith, nat_tests, l)) in
    elim (cases_eq w d) [
      | inl same ↦ (
          let at : slice_index_or (slice_set late d true) w false ≡ true = ap (λ x. slice_index_or (slice_set late d true) x false) same ∙ get_or-set_same late d true false less in
          rw (length-set late d true, within, at) refl
          )
      | inr apart ↦ rw (length-set late d true, within, get_or-set_other late d w true false apart, parts.1) refl
    ]

-- the picture of a buffer that went early is there
pub timely-late : (late : List Bool) (slots : List Slot) (i d : ℕ) (p : Shown) → AreTimely late slots → i < length slots → slice_index_or slots i Away ≡ Early d d → AreTimely (slice_set late d true) (slice_set slots i (Late p d))
timely-late late slots i d p kept within is =
    let parts = early-parts late d d (ap (is_timely late) (sym is) ∙ kept.timely i) in
    let less = parts.1 in
    let made' : nat_lt d (length late) ≡ true = grind (arith, nat_tests, less) in
    timely-set (slice_set late d true) slots i (Late p d) within (λ j other. timely-signalled late d (slice_index_or slots j Away) less (λ h. other (kept.apart j i d h (ap awaited_of is))) (kept.timely j)) kept.apart (rw (length-set late d true, made', get_or-set_same late d true false less) refl) (λ e j awaits other h. never e awaits)
  where
    never : (e : ℕ) → ◌≡◌ {A = Option ℕ} None (Some e) → ⊥
    never e h = absurd (cc)

-- a buffer that the client may give back has its picture
pub picture-there : (late : List Bool) (v : Slot) → is_timely late v ≡ true → place_of v ≡ Client → ((d : DeviceFenceNo) → held_of v ≡ Some d → slice_index_or late d.0 false ≡ true) → has_picture v ≡ true
picture-there late (Home fence) fits at there = absurd (false≢true (ap (λ p. is_at p Client) at))
picture-there late Away fits at there = absurd (false≢true (ap (λ p. is_at p Client) at))
picture-there late (Filled pixels) fits at there = refl
picture-there late (Early s w) fits at there =
    let parts = early-parts late s w fits in
    absurd (false≢true (sym parts.2 ∙ there (record { 0 = w }) refl))
picture-there late (Late p w) fits at there = refl

-- the pixels that are kept are the buffer's own
pub pixels-own : (spec : StreamSpec) (b : ℕ) (v : Slot) (p : Shown) → is_sound spec b v ≡ true → pixels_of v ≡ Some p → is_buffer_of spec b p ≡ true
pixels-own spec b (Home fence) p sound h = absurd (cc)
pixels-own spec b Away p sound h = absurd (cc)
pixels-own spec b (Filled q) p sound h = (let same : q ≡ p = cc in ap (is_buffer_of spec b) (sym same) ∙ sound)
pixels-own spec b (Early s w) p sound h = absurd (cc)
pixels-own spec b (Late q w) p sound h = (let same : q ≡ p = cc in ap (is_buffer_of spec b) (sym same) ∙ sound)

-- a buffer that the client may give back
pub release-parts : (homes : Homes) (b : ℕ) → (is_at (place_in homes b) Client && there_in homes (held_in homes b)) ≡ true → (is_at (place_in homes b) Client ≡ true) × ((d : DeviceFenceNo) → held_in homes b ≡ Some d → late_in homes d.0 ≡ true)
release-parts homes b h =
    let parts = and_parts (is_at (place_in homes b) Client) (there_in homes (held_in homes b)) h in
    (parts.0, λ d is. ap (there_in homes) (sym is) ∙ parts.1)

-- a buffer's own pixels have its number
pub number-is : (spec : StreamSpec) (b : ℕ) (p : Shown) → is_buffer_of spec b p ≡ true → p.id.0 ≡ b
number-is spec b p h =
    eqb-true p.id.0 b (and_parts (p.id.0 == b) ((length p.bytes == length_in spec.format spec.width spec.height) && (p.block == block_length spec.format)) h).0

pub renumbered : (spec : StreamSpec) (b : ℕ) (p : Shown) → is_buffer_of spec b p ≡ true → is_buffer_of spec p.id.0 p ≡ true
renumbered spec b p h = subst (λ x. is_buffer_of spec x p ≡ true) (sym (number-is spec b p h)) h

-- a buffer that went early and whose picture isn't there, and what was kept for it
pub record IsEarly (first : ℕ) (slots : List Slot) (late : List Bool) (b : ℕ) (r : Slot) : Type 0 where
  pub device : DeviceFenceNo
  pub held : slice_index_or (map held_of slots) (b - first) None ≡ Some device
  pub out : IsOut first slots b
  pub here : slice_index_or slots (b - first) Away ≡ Early device.0 device.0
  pub at : slot_at first slots b ≡ Early device.0 device.0
  pub got : r ≡ Early device.0 device.0
  pub made : device.0 < length late

pub early-at : (first : ℕ) (slots : List Slot) (late : List Bool) (b : ℕ) (r : Slot) → AreTimely late slots → is_at (place_at first slots b) Client ≡ true → (d : DeviceFenceNo) × (slice_index_or (map held_of slots) (b - first) None ≡ Some d) × (slice_index_or late d.0 false ≡ false) → slice_get slots (b - first) ≡ Some r → IsEarly first slots late b r
early-at first slots late b r kept client awaits old =
    let out = client-at first slots b client in
    let d = awaits.0 in
    let is = early-is late (slice_index_or slots (b - first) Away) awaits.0 (kept.timely (b - first)) (sym (held-at slots (b - first) out.within) ∙ awaits.1) awaits.2 in
    let parts = early-parts late awaits.0.0 awaits.0.0 (ap (is_timely late) (sym is) ∙ kept.timely (b - first)) in
    record {
      device = awaits.0;
      held = awaits.1;
      out = out;
      here = is;
      at = out.at ∙ is;
      got = sym (get_or_from_slice_get slots (b - first) r Away old) ∙ is;
      made = parts.1;
    }
