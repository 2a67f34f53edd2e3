-- What is seen of what is kept: what is read of a buffer, and what is seen where a buffer moves.
use Rattle.std.proofs.Common.{◌≡◌, ℕ, ◌-◌, ◌&&◌, true, nat_le, if◌then◌else◌, List, [], Option, Some, None, refl, sym, ap, ◌∙◌, map, inl, inr}
use Rattle.std.specs.Prelude.{slice_get, slice_index_or, slice_set, unwrap_or}
use Rattle.std.specs.Option.{option_map}
use Rattle.std.proofs.lemmas.Bool.{cases_Bool}
use Rattle.std.proofs.lemmas.List.{map-set}
use Rattle.std.proofs.lemmas.Option.{get_or_from_slice_get, slice_get-map, unwrap_or-slice_get}
use Rattle.cam_types.specs.Shown.{Shown}
use Rattle.cam_types.specs.declared.profile.Profile.{Profile}
use Rattle.buffer_pool.specs.Fences.{FencesMade, with_signal}
use Rattle.trace_model.specs.Place.{Client, Pool, is_at}
use Rattle.state_facts.specs.Homes.{Homes, held_in, place_in, there_in}
use Rattle.buffer_manager.specs.declared.slot.Slot.{Slot}
use Rattle.buffer_manager.specs.declared.slot.Slot.TheVariants.{Away, Early, Filled, Home, Late}
use Rattle.buffer_manager.specs.declared.stream.Stream.{Stream}
use Rattle.buffer_manager.specs.Kept.{AreTimely}
use Rattle.buffer_manager.specs.Managed.{Managed, homes_with, moved, with_picture}
use Rattle.buffer_manager.specs.Slots.{fence_of, has_picture, held_of, is_timely, picture_of, place_of}
use Rattle.buffer_manager.proofs.Lists.{map-set-same}
use Rattle.buffer_manager.proofs.Pictures.{early-parts, late-parts}

abbrev pub seen : List Stream → ℕ → List Slot → FencesMade → Profile → Managed
seen streams first slots late profile = record {
  made = map (λ (s : Stream). s.made) streams;
  first = first;
  places = map place_of slots;
  fences = map fence_of slots;
  held = map held_of slots;
  pictures = map picture_of slots;
  late = late.signalled;
  specs = map (λ (s : Stream). s.spec) streams;
  room = late.room;
  profile = profile;
}

-- a buffer moves
pub moved-is : (streams : List Stream) (first : ℕ) (slots new : List Slot) (late : FencesMade) (profile : Profile) (b : ℕ) (v : Slot) → new ≡ slice_set slots (b - first) v → seen streams first new late profile ≡ moved b (place_of v) (fence_of v) (held_of v) (picture_of v) (seen streams first slots late profile)
moved-is streams first slots new late profile b v put =
    rw (put, map-set place_of slots (b - first) v, map-set fence_of slots (b - first) v, map-set held_of slots (b - first) v, map-set picture_of slots (b - first) v) refl

-- the picture of a buffer that went early is there
pub picture-is-there : (streams : List Stream) (first : ℕ) (slots new : List Slot) (late after : FencesMade) (profile : Profile) (b d : ℕ) (pixels : Shown) → slice_get slots (b - first) ≡ Some (Early d d) → new ≡ slice_set slots (b - first) (Late pixels d) → after ≡ with_signal d late → seen streams first new after profile ≡ with_picture d b pixels.bytes (seen streams first slots late profile)
picture-is-there streams first slots new late after profile b d pixels old put signalled =
    rw (put, signalled, map-set-same place_of slots (b - first) (Early d d) (Late pixels d) old refl, map-set-same fence_of slots (b - first) (Early d d) (Late pixels d) old refl, map-set-same held_of slots (b - first) (Early d d) (Late pixels d) old refl, map-set picture_of slots (b - first) (Late pixels d)) refl

-- of a stream the buffers and the specification are seen
pub stream-same : (streams : List Stream) (first : ℕ) (slots : List Slot) (late : FencesMade) (profile : Profile) (k : ℕ) (s t : Stream) → slice_get streams k ≡ Some s → t.made ≡ s.made → t.spec ≡ s.spec → seen (slice_set streams k t) first slots late profile ≡ seen streams first slots late profile
stream-same streams first slots late profile k s t at made spec =
    rw (map-set-same (λ (s : Stream). s.made) streams k s t at made, map-set-same (λ (s : Stream). s.spec) streams k s t at spec) refl

-- ---- what is read of a buffer

pub read-of : {Y : Type 0} (f : Slot → Y) (d : Y) (first : ℕ) (slots : List Slot) (b : ℕ) (o : Option Slot) → o ≡ (if nat_le first b then slice_get slots (b - first) else None) → (if nat_le first b then slice_index_or (map f slots) (b - first) d else d) ≡ unwrap_or (option_map f o) d
read-of f d first slots b o is = elim (cases_Bool (nat_le first b)) [
  | inl yes' ↦ (
      let at : o ≡ slice_get slots (b - first) = rw yes' at is in
      rw yes' (sym (unwrap_or-slice_get (map f slots) (b - first) d) ∙ ap (λ z. unwrap_or z d) (slice_get-map f slots (b - first) ∙ ap (option_map f) (sym at)))
      )
  | inr no' ↦ (
      let none : o ≡ None = rw no' at is in
      rw (no', none) refl
      )
]

-- the client has the buffer with its picture exactly where its device fence, if it has one, is signalled
picture-is : (homes : Homes) (v : Slot) → is_timely homes.late v ≡ true → has_picture v ≡ (is_at (place_of v) Client && there_in homes (held_of v))
picture-is homes (Home fence) fits = refl
picture-is homes Away fits = refl
picture-is homes (Filled pixels) fits = refl
picture-is homes (Early s w) fits = sym (early-parts homes.late s w fits).2
picture-is homes (Late p w) fits = sym (late-parts homes.late p w fits).1

pub may-be : (streams : List Stream) (first : ℕ) (slots : List Slot) (late : FencesMade) (profile : Profile) (b : ℕ) (v : Slot) → AreTimely late.signalled slots → Some v ≡ (if nat_le first b then slice_get slots (b - first) else None) → (let homes = homes_with [] (seen streams first slots late profile) in has_picture v ≡ (is_at (place_in homes b) Client && there_in homes (held_in homes b)))
may-be streams first slots late profile b v kept is = elim (cases_Bool (nat_le first b)) [
  | inl yes' ↦ (
      let at : Some v ≡ slice_get slots (b - first) = rw yes' at is in
      let fits : is_timely late.signalled v ≡ true = ap (is_timely late.signalled) (sym (get_or_from_slice_get slots (b - first) v Away (sym at))) ∙ kept.timely (b - first) in
      let held : slice_index_or (map held_of slots) (b - first) None ≡ held_of v = sym (unwrap_or-slice_get (map held_of slots) (b - first) None) ∙ ap (λ z. unwrap_or z None) (slice_get-map held_of slots (b - first) ∙ ap (option_map held_of) (sym at)) in
      let place = read-of place_of Pool first slots b (Some v) is in
      rw (place, held) (picture-is (homes_with [] (seen streams first slots late profile)) v fits)
      )
  | inr no' ↦ (let none : Some v ≡ None = rw no' at is in absurd (cc))
]
