-- What is kept for one buffer is written.
use Rattle.std.proofs.Common.{◌≡◌, ℕ, zero, suc, ◌+◌, ◌-◌, ◌<◌, ◌≤◌, Bool, true, false, nat_le, if◌then◌else◌, List, [], ◌∷◌, Option, Some, None, refl, sym, ◌∙◌, ap, arith, map, length, inl, inr}
use Rattle.std.specs.Prelude.{slice_set, slice_index_or}
use Rattle.std.proofs.lemmas.Bool.{cases_Bool, cases_eq, false≢true}
use Rattle.std.proofs.lemmas.Bool.Decides.{nat_tests}
use Rattle.std.proofs.lemmas.List.{get_or-set_same, get_or-set_other}
use Rattle.trace_model.specs.Place.{Place, Pool, Device, Client, is_at}
use Rattle.buffer_manager.specs.Resting.{listed}
use Rattle.buffer_manager.specs.declared.slot.Slot.{Slot}
use Rattle.buffer_manager.specs.declared.slot.Slot.TheVariants.{Away}
use Rattle.buffer_manager.specs.Slots.{awaited_of, is_timely, place_of, slot_at}
use Rattle.buffer_manager.specs.Kept.{AreTimely}
use Rattle.state_facts.proofs.Own.{at-client}

pub slot-here : (first : ℕ) (slots : List Slot) (b : ℕ) (v : Slot) → first ≤ b → b - first < length slots → slot_at first (slice_set slots (b - first) v) b ≡ v
slot-here first slots b v low within =
    let yes' : nat_le first b ≡ true = grind (arith, nat_tests, low) in
    rw yes' (get_or-set_same slots (b - first) v Away within)

pub slot-other : (first : ℕ) (slots : List Slot) (b c : ℕ) (v : Slot) → first ≤ b → (c ≡ b → ⊥) → slot_at first (slice_set slots (b - first) v) c ≡ slot_at first slots c
slot-other first slots b c v low other = elim (cases_Bool (nat_le first c)) [
  | inl yes' ↦ (
      let low' : first ≤ c = grind (arith, nat_tests, yes') in
      let apart : c - first ≡ b - first → ⊥ = λ same. other (omega (arith, same, low, low')) in
      rw yes' (get_or-set_other slots (b - first) (c - first) v Away apart)
      )
  | inr no' ↦ rw no' refl
]

-- the same are listed where the same are at home, with their fences
pub listed-alike : (f f' : ℕ → Place) (g g' : ℕ → Option ℕ) (a n : ℕ) → ((b : ℕ) → a ≤ b → b < a + n → (is_at (f' b) Pool ≡ is_at (f b) Pool) × (g' b ≡ g b)) → listed f' g' a n ≡ listed f g a n
listed-alike f f' g g' a zero same = refl
listed-alike f f' g g' a (suc n) same =
    let here = same a (omega arith) (omega arith) in
    let rest = listed-alike f f' g g' (a + 1) n (λ b low high. same b (omega (arith, low)) (omega (arith, high))) in
    rw (here.0, here.1, rest) refl

-- the slot of a buffer that is at the device
pub away-is : (v : Slot) → is_at (place_of v) Device ≡ true → v ≡ Away
away-is Away h = refl
away-is _ h = absurd (false≢true h)

-- a place that isn't home is that of a slot
pub placed-at : (slots : List Slot) (i : ℕ) (p : Place) → is_at p Pool ≡ false → slice_index_or (map place_of slots) i Pool ≡ p → (i < length slots) × (place_of (slice_index_or slots i Away) ≡ p)
placed-at [] i p away h = absurd (false≢true (sym away ∙ ap (λ q. is_at q Pool) (sym h)))
placed-at (v ∷ slots) zero p away h = (omega arith, h)
placed-at (v ∷ slots) (suc i) p away h =
    let rest = placed-at slots i p away h in
    let less = rest.0 in (omega (arith, less), rest.1)

pub is-device : (p : Place) → is_at p Device ≡ true → p ≡ Device
is-device Pool h = absurd (false≢true h)
is-device Device h = refl
is-device Client h = absurd (false≢true h)

-- the place of a buffer, as a state of a trace reads it
abbrev pub place_at : ℕ → List Slot → ℕ → Place
place_at first slots b = if nat_le first b then slice_index_or (map place_of slots) (b - first) Pool else Pool

pub record IsAway (first : ℕ) (slots : List Slot) (b : ℕ) : Type 0 where
  pub low : first ≤ b
  pub within : b - first < length slots
  pub here : slice_index_or slots (b - first) Away ≡ Away
  pub at : slot_at first slots b ≡ Away

pub away-at : (first : ℕ) (slots : List Slot) (b : ℕ) → is_at (place_at first slots b) Device ≡ true → IsAway first slots b
away-at first slots b h = elim (cases_Bool (nat_le first b)) [
  | inl yes' ↦ (
      let h' : is_at (slice_index_or (map place_of slots) (b - first) Pool) Device ≡ true = rw yes' at h in
      let at = placed-at slots (b - first) Device refl (is-device (slice_index_or (map place_of slots) (b - first) Pool) h') in
      let here = away-is (slice_index_or slots (b - first) Away) (ap (λ p. is_at p Device) at.1) in record {
        low = grind (arith, nat_tests, yes');
        within = at.0;
        here = here;
        at = rw yes' here;
      }
      )
  | inr no' ↦ (let h' : is_at Pool Device ≡ true = rw no' at h in absurd (false≢true h'))
]

pub record IsOut (first : ℕ) (slots : List Slot) (b : ℕ) : Type 0 where
  pub low : first ≤ b
  pub within : b - first < length slots
  pub here : place_of (slice_index_or slots (b - first) Away) ≡ Client
  pub at : slot_at first slots b ≡ slice_index_or slots (b - first) Away

pub client-at : (first : ℕ) (slots : List Slot) (b : ℕ) → is_at (place_at first slots b) Client ≡ true → IsOut first slots b
client-at first slots b h = elim (cases_Bool (nat_le first b)) [
  | inl yes' ↦ (
      let h' : is_at (slice_index_or (map place_of slots) (b - first) Pool) Client ≡ true = rw yes' at h in
      let at = placed-at slots (b - first) Client refl (at-client (slice_index_or (map place_of slots) (b - first) Pool) h') in record {
        low = grind (arith, nat_tests, yes');
        within = at.0;
        here = at.1;
        at = rw yes' refl;
      }
      )
  | inr no' ↦ (let h' : is_at Pool Client ≡ true = rw no' at h in absurd (false≢true h'))
]

-- a slot is written: what it awaits, no other awaits
pub timely-set : (late : List Bool) (slots : List Slot) (i : ℕ) (v : Slot) → i < length slots → ((j : ℕ) → (j ≡ i → ⊥) → is_timely late (slice_index_or slots j Away) ≡ true) → ((j k d : ℕ) → awaited_of (slice_index_or slots j Away) ≡ Some d → awaited_of (slice_index_or slots k Away) ≡ Some d → j ≡ k) → is_timely late v ≡ true → ((d j : ℕ) → awaited_of v ≡ Some d → (j ≡ i → ⊥) → awaited_of (slice_index_or slots j Away) ≡ Some d → ⊥) → AreTimely late (slice_set slots i v)
timely-set late slots i v within others old fits fresh = record { timely = timely; apart = apart }
  where
    here : slice_index_or (slice_set slots i v) i Away ≡ v
    here = get_or-set_same slots i v Away within

    there : (j : ℕ) → (j ≡ i → ⊥) → slice_index_or (slice_set slots i v) j Away ≡ slice_index_or slots j Away
    there j other = get_or-set_other slots i j v Away other

    timely : (j : ℕ) → is_timely late (slice_index_or (slice_set slots i v) j Away) ≡ true
    timely j = elim (cases_eq j i) [
      | inl same ↦ ap (λ k. is_timely late (slice_index_or (slice_set slots i v) k Away)) same ∙ (ap (is_timely late) here ∙ fits)
      | inr other ↦ ap (is_timely late) (there j other) ∙ others j other
    ]

    at-here : (j d : ℕ) → j ≡ i → awaited_of (slice_index_or (slice_set slots i v) j Away) ≡ Some d → awaited_of v ≡ Some d
    at-here j d same h = sym (ap awaited_of here) ∙ (ap (λ k. awaited_of (slice_index_or (slice_set slots i v) k Away)) (sym same) ∙ h)

    at-there : (j d : ℕ) → (j ≡ i → ⊥) → awaited_of (slice_index_or (slice_set slots i v) j Away) ≡ Some d → awaited_of (slice_index_or slots j Away) ≡ Some d
    at-there j d other h = sym (ap awaited_of (there j other)) ∙ h

    apart : (j k d : ℕ) → awaited_of (slice_index_or (slice_set slots i v) j Away) ≡ Some d → awaited_of (slice_index_or (slice_set slots i v) k Away) ≡ Some d → j ≡ k
    apart j k d at-j at-k = elim (cases_eq j i) [
      | inl same ↦ elim (cases_eq k i) [
        | inl same' ↦ same ∙ sym same'
        | inr other' ↦ absurd (fresh d k (at-here j d same at-j) other' (at-there k d other' at-k))
      ]
      | inr other ↦ elim (cases_eq k i) [
        | inl same' ↦ absurd (fresh d j (at-here k d same' at-k) other (at-there j d other at-j))
        | inr other' ↦ old j k d (at-there j d other at-j) (at-there k d other' at-k)
      ]
    ]

-- a slot that awaits no picture is written
pub timely-plain : (late : List Bool) (slots : List Slot) (i : ℕ) (v : Slot) → AreTimely late slots → i < length slots → is_timely late v ≡ true → awaited_of v ≡ None → AreTimely late (slice_set slots i v)
timely-plain late slots i v kept within fits none =
    timely-set late slots i v within (λ j other. kept.timely j) kept.apart fits (λ d j awaits other h. absurd (never d (sym none ∙ awaits)))
  where
    never : (d : ℕ) → ◌≡◌ {A = Option ℕ} None (Some d) → ⊥
    never d h = absurd (cc)
