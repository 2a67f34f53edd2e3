-- Parts are read in the lists that are packed of them, and in no other lists.
use Rattle.std.proofs.Common.{◌≡◌, ℕ, ◌+◌, ◌^◌, ◌<◌, Bool, true, false, cond, eqb, leb, Option, Some, None, List, [], ◌∷◌, length, refl, ap, ◌∙◌, arith, inl, inr}
use Rattle.std.specs.Prelude.{◌⊎◌, ◌&&◌, pos, negsuc}
use Rattle.std.proofs.lemmas.Bool.{eqb-true, leb-true, false≢true}
use Rattle.cam_types.specs.Metadata.{pattern_tag, level_tag, exposure_tag, sensitivity_tag, timestamp_tag}
use Rattle.cam_types.specs.declared.partial_result.PartialResult.{PartialResult}
use Rattle.cam_types.specs.declared.partial_result.PartialResult.TheVariants.{Look, Light, Time}
use Rattle.metadata.specs.declared.entry.Entry.{Entry}
use Rattle.metadata.specs.declared.values.Values.{Values}
use Rattle.metadata.specs.declared.values.Values.TheVariants.{Bytes, Int32, Int64}
use Rattle.metadata.specs.Entries.{values_at, ascends_from, IsEntry, IsPacked, NumbersFit}
use Rattle.metadata.specs.Numbers.{one_byte, one_int32, one_int64, byte_entry, int32_entry, int64_entry}
use Rattle.metadata.specs.Parts.{part_entries, part_number, part_in, PartFits, PatternFits}
use Rattle.basic_lemmas.proofs.Tests.{and-parts}

-- ---- one number under a tag

pub byte_is : (o : Option Values) (n : ℕ) → one_byte o ≡ Some n → o ≡ Some (Bytes (n ∷ []))
byte_is (Some (Bytes (m ∷ []))) n h = let e : m ≡ n = cc in ap (λ (k : ℕ). Some (Bytes (k ∷ []))) e
byte_is _ n h = absurd (cc)

pub int32_is : (o : Option Values) (n : ℕ) → one_int32 o ≡ Some n → o ≡ Some (Int32 (pos n ∷ []))
int32_is (Some (Int32 (pos m ∷ []))) n h = let e : m ≡ n = cc in ap (λ (k : ℕ). Some (Int32 (pos k ∷ []))) e
int32_is _ n h = absurd (cc)

pub int64_is : (o : Option Values) (n : ℕ) → one_int64 o ≡ Some n → o ≡ Some (Int64 (pos n ∷ []))
int64_is (Some (Int64 (pos m ∷ []))) n h = let e : m ≡ n = cc in ap (λ (k : ℕ). Some (Int64 (pos k ∷ []))) e
int64_is _ n h = absurd (cc)

-- ---- a list of one entry, or of two

chosen : {A : Type 0} (b : Bool) (x y z : A) → cond b x y ≡ z → ((b ≡ true) × (x ≡ z)) ⊎ ((b ≡ false) × (y ≡ z))
chosen true x y z h = inl (refl, h)
chosen false x y z h = inr (refl, h)

entry_is : (e : Entry) (tag : ℕ) (v w : Values) → eqb e.tag tag ≡ true → e.values ≡ w → Some w ≡ Some v → e ≡ record { tag = tag; values = v }
entry_is e tag v w tags here same =
    let t = eqb-true e.tag tag tags in
    let k : record { tag = e.tag; values = e.values } ≡ record { tag = tag; values = v } = let s : e.values ≡ v = cc in rw (t, s) refl in
    k

pub one_entry : (es : List Entry) (tag : ℕ) (v : Values) → length es ≡ 1 → values_at tag es ≡ Some v → es ≡ record { tag = tag; values = v } ∷ []
one_entry [] tag v len h = absurd (cc)
one_entry (a ∷ []) tag v len h =
    elim (chosen (eqb a.tag tag) (Some a.values) None (Some v) h) [
      | inl here ↦ ap (λ (e : Entry). e ∷ []) (entry_is a tag v a.values here.0 refl here.1)
      | inr none ↦ absurd (let bad = none.1 in cc)
    ]
one_entry (a ∷ b ∷ es) tag v len h = absurd (omega arith)

pub two_entries : (es : List Entry) (first second : ℕ) (v w : Values) → first < second → ascends_from 0 es ≡ true → length es ≡ 2 → values_at first es ≡ Some v → values_at second es ≡ Some w
    → es ≡ record { tag = first; values = v } ∷ record { tag = second; values = w } ∷ []
two_entries [] first second v w lt ascends len hv hw = absurd (omega arith)
two_entries (a ∷ []) first second v w lt ascends len hv hw = absurd (omega arith)
two_entries (a ∷ b ∷ []) first second v w lt ascends len hv hw =
    let parts = and-parts (leb 0 a.tag) (leb (a.tag + 1) b.tag && true) ascends in
    let above = leb-true (a.tag + 1) b.tag (and-parts (leb (a.tag + 1) b.tag) true parts.1).0 in
    elim (chosen (eqb a.tag first) (Some a.values) (cond (eqb b.tag first) (Some b.values) None) (Some v) hv) [
      | inl here ↦ elim (chosen (eqb a.tag second) (Some a.values) (cond (eqb b.tag second) (Some b.values) None) (Some w) hw) [
        | inl bad ↦ absurd (omega (arith, eqb-true a.tag first here.0, eqb-true a.tag second bad.0))
        | inr left ↦ elim (chosen (eqb b.tag second) (Some b.values) None (Some w) left.1) [
          | inl there ↦ (ap (λ (x : Entry). x ∷ b ∷ []) (entry_is a first v a.values here.0 refl here.1)
              ∙ ap (λ (y : Entry). record { tag = first; values = v } ∷ y ∷ []) (entry_is b second w b.values there.0 refl there.1))
          | inr none ↦ absurd (let bad = none.1 in cc)
        ]
      ]
      | inr left ↦ elim (chosen (eqb b.tag first) (Some b.values) None (Some v) left.1) [
        | inl there ↦ (let b-is = eqb-true b.tag first there.0 in
            elim (chosen (eqb a.tag second) (Some a.values) (cond (eqb b.tag second) (Some b.values) None) (Some w) hw) [
              | inl bad ↦ absurd (omega (arith, above, b-is, eqb-true a.tag second bad.0))
              | inr more ↦ elim (chosen (eqb b.tag second) (Some b.values) None (Some w) more.1) [
                | inl bad ↦ absurd (omega (arith, b-is, eqb-true b.tag second bad.0))
                | inr none ↦ absurd (let bad = none.1 in cc)
              ]
            ])
        | inr none ↦ absurd (let bad = none.1 in cc)
      ]
    ]
two_entries (a ∷ b ∷ d ∷ es) first second v w lt ascends len hv hw = absurd (omega arith)

-- ---- a part's list is one that has a spelling

byte_entry_is : (tag n : ℕ) → tag < 2 ^ 32 → IsEntry (byte_entry tag n)
byte_entry_is tag n small = record { tag = small; some = omega arith; few = omega arith }

int32_entry_is : (tag n : ℕ) → tag < 2 ^ 32 → IsEntry (int32_entry tag n)
int32_entry_is tag n small = record { tag = small; some = omega arith; few = omega arith }

int64_entry_is : (tag n : ℕ) → tag < 2 ^ 32 → IsEntry (int64_entry tag n)
int64_entry_is tag n small = record { tag = small; some = omega arith; few = omega arith }

pub part_packed : (p : PartialResult) → IsPacked (part_entries p)
part_packed (Look pattern level) = record { ascending = refl; entries = omega arith; area = omega arith; each = (byte_entry_is pattern_tag pattern (omega arith), (int32_entry_is level_tag level (omega arith), tt)) }
part_packed (Light exposure iso) = record { ascending = refl; entries = omega arith; area = omega arith; each = (int64_entry_is exposure_tag exposure (omega arith), (int32_entry_is sensitivity_tag iso (omega arith), tt)) }
part_packed (Time timestamp) = record { ascending = refl; entries = omega arith; area = omega arith; each = (int64_entry_is timestamp_tag timestamp (omega arith), tt) }

pub part_numbers : (p : PartialResult) → PatternFits p → PartFits p → NumbersFit (part_entries p)
part_numbers (Look pattern level) small fits = ((small, tt), ((record { sfits = fits }, tt), tt))
part_numbers (Light exposure iso) small fits = ((record { sfits = fits.0 }, tt), ((record { sfits = fits.1 }, tt), tt))
part_numbers (Time timestamp) small fits = ((record { sfits = fits }, tt), tt)

pub part_again : (p : PartialResult) → part_in (part_number p) (part_entries p) ≡ Some p
unfolding part_in
part_again (Look pattern level) = refl
part_again (Light exposure iso) = refl
part_again (Time timestamp) = refl
