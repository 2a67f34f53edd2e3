-- A part that is read is the one whose packed form was read.
use Rattle.std.proofs.Common.{◌≡◌, ℕ, ◌^◌, true, cond, eqb, List, [], ◌∷◌, length, Option, None, Some, Result, Ok, Err, refl, sym, ap, subst, ◌∙◌, inl, inr, arith}
use Rattle.std.specs.Prelude.{pos}
use Rattle.std.proofs.lemmas.Bool.{and_from, eqb-true, lt-ltb}
use Rattle.cam_types.specs.Metadata.{pattern_tag, level_tag, exposure_tag, sensitivity_tag, timestamp_tag}
use Rattle.cam_types.specs.declared.partial_result.PartialResult.{PartialResult}
use Rattle.cam_types.specs.declared.partial_result.PartialResult.TheVariants.{Look, Light, Time}
use Rattle.hex.specs.Hex.{IsBytes}
use Rattle.metadata.specs.declared.entry.Entry.{Entry}
use Rattle.metadata.specs.declared.values.Values.TheVariants.{Bytes, Int32, Int64}
use Rattle.metadata.specs.declared.refused.PackedRefused.{PackedRefused}
use Rattle.metadata.specs.Entries.{values_at, IsPacked, NumbersFit}
use Rattle.metadata.specs.Reading.{list_of}
use Rattle.metadata.specs.Spelling.{bytes_of}
use Rattle.metadata.proofs.Whole.{all_takes}
use Rattle.metadata.specs.Numbers.{one_byte, one_int32, one_int64}
use Rattle.metadata.specs.Parts.{◌>>=◌, part_entries, part_in, look_in, light_in, time_in}
use Rattle.metadata.proofs.Parts.{byte_is, int32_is, int64_is, one_entry, two_entries}
use Rattle.trace_model.specs.Printable.{part_fits}
use Rattle.trace_reader.specs.Lines.{part_from, metadata_is, metadata}
use Rattle.basic_lemmas.proofs.Tests.{chosen, given-where}

bind-some : {A B : Type 0} (o : Option A) (f : A → Option B) (y : B) → (o >>= f) ≡ Some y → (x : A) × (o ≡ Some x) × (f x ≡ Some y)
bind-some (Some x) f y h = (x, refl, h)
bind-some None f y h = absurd (cc)

abbrev IsPart : ℕ → List Entry → PartialResult → Type 0
IsPart k es part = (es ≡ part_entries part) × (part_fits k part ≡ true)

moved : (k : ℕ) (es : List Entry) (p part : PartialResult) → p ≡ part → es ≡ part_entries p → part_fits k p ≡ true → IsPart k es part
moved k es p part s t f = (t ∙ ap part_entries s, sym (ap (part_fits k) s) ∙ f)

look-is : (es : List Entry) (part : PartialResult) → IsPacked es → NumbersFit es → look_in es ≡ Some part → IsPart 1 es part
look-is es part packed fit h =
    let a = bind-some (one_byte (values_at pattern_tag es)) _ part h in
    let b = bind-some (one_int32 (values_at level_tag es)) _ part a.2 in
    let c = given-where (eqb (length es) 2) (Look a.0 b.0) part b.2 in
    let e : es ≡ part_entries (Look a.0 b.0) = two_entries es pattern_tag level_tag (Bytes (a.0 ∷ [])) (Int32 (pos b.0 ∷ [])) (omega arith) packed.ascending (eqb-true (length es) 2 c.0) (byte_is (values_at pattern_tag es) a.0 a.1) (int32_is (values_at level_tag es) b.0 b.1) in
    let n : NumbersFit (part_entries (Look a.0 b.0)) = subst NumbersFit e fit in
    moved 1 es (Look a.0 b.0) part c.1 e (and_from _ _ refl (and_from _ _ (lt-ltb a.0 (2 ^ 8) n.0.0) (lt-ltb b.0 (2 ^ 31) n.1.0.0.sfits)))

light-is : (es : List Entry) (part : PartialResult) → IsPacked es → NumbersFit es → light_in es ≡ Some part → IsPart 2 es part
light-is es part packed fit h =
    let a = bind-some (one_int64 (values_at exposure_tag es)) _ part h in
    let b = bind-some (one_int32 (values_at sensitivity_tag es)) _ part a.2 in
    let c = given-where (eqb (length es) 2) (Light a.0 b.0) part b.2 in
    let e : es ≡ part_entries (Light a.0 b.0) = two_entries es exposure_tag sensitivity_tag (Int64 (pos a.0 ∷ [])) (Int32 (pos b.0 ∷ [])) (omega arith) packed.ascending (eqb-true (length es) 2 c.0) (int64_is (values_at exposure_tag es) a.0 a.1) (int32_is (values_at sensitivity_tag es) b.0 b.1) in
    let n : NumbersFit (part_entries (Light a.0 b.0)) = subst NumbersFit e fit in
    moved 2 es (Light a.0 b.0) part c.1 e (and_from _ _ refl (and_from _ _ (lt-ltb a.0 (2 ^ 63) n.0.0.sfits) (lt-ltb b.0 (2 ^ 31) n.1.0.0.sfits)))

time-is : (es : List Entry) (part : PartialResult) → IsPacked es → NumbersFit es → time_in es ≡ Some part → IsPart 3 es part
time-is es part packed fit h =
    let a = bind-some (one_int64 (values_at timestamp_tag es)) _ part h in
    let c = given-where (eqb (length es) 1) (Time a.0) part a.2 in
    let e : es ≡ part_entries (Time a.0) = one_entry es timestamp_tag (Int64 (pos a.0 ∷ [])) (eqb-true (length es) 1 c.0) (int64_is (values_at timestamp_tag es) a.0 a.1) in
    let n : NumbersFit (part_entries (Time a.0)) = subst NumbersFit e fit in
    moved 3 es (Time a.0) part c.1 e (and_from _ _ refl (lt-ltb a.0 (2 ^ 63) n.0.0.sfits))

part_in-is : (k : ℕ) (es : List Entry) (part : PartialResult) → IsPacked es → NumbersFit es → part_in k es ≡ Some part → IsPart k es part
unfolding part_in
part_in-is k es part packed fit h = elim (chosen (eqb k 1) (look_in es) (cond (eqb k 2) (light_in es) (cond (eqb k 3) (time_in es) None)) (Some part) h) [
  | inl p ↦ (let e : 1 ≡ k = sym (eqb-true k 1 p.0) in subst (λ (j : ℕ). IsPart j es part) e (look-is es part packed fit p.1))
  | inr p ↦ elim (chosen (eqb k 2) (light_in es) (cond (eqb k 3) (time_in es) None) (Some part) p.1) [
    | inl q ↦ (let e : 2 ≡ k = sym (eqb-true k 2 q.0) in subst (λ (j : ℕ). IsPart j es part) e (light-is es part packed fit q.1))
    | inr q ↦ elim (chosen (eqb k 3) (time_in es) None (Some part) q.1) [
      | inl r ↦ (let e : 3 ≡ k = sym (eqb-true k 3 r.0) in subst (λ (j : ℕ). IsPart j es part) e (time-is es part packed fit r.1))
      | inr r ↦ absurd (let bad = r.1 in cc)
    ]
  ]
]

some-is : (o : Option PartialResult) (part : PartialResult) → metadata_is o ≡ Ok part → o ≡ Some part
some-is None part h = absurd (cc)
some-is (Some p) part h = let e : p ≡ part = cc in ap Some e

from-list : (k : ℕ) (bytes : List ℕ) (r : Result (List Entry) PackedRefused) (part : PartialResult) → IsBytes bytes → list_of bytes ≡ r → part_from k r ≡ Some part → (bytes ≡ bytes_of (part_entries part)) × (part_fits k part ≡ true)
from-list k bytes (Err c) part small e h = absurd (cc)
from-list k bytes (Ok es) part small e h =
    let t = all_takes bytes es small e in
    let p = part_in-is k es part t.1 t.2 h in
    (t.0 ∙ ap bytes_of p.0, p.1)

pub metadata-means : (k : ℕ) (bytes : List ℕ) (part : PartialResult) → IsBytes bytes → metadata k bytes ≡ Ok part → (bytes ≡ bytes_of (part_entries part)) × (part_fits k part ≡ true)
metadata-means k bytes part small h = from-list k bytes (list_of bytes) part small refl (some-is (part_from k (list_of bytes)) part h)
