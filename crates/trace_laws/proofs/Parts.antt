-- What it says of the past that metadata ends, and the parts of a frame: they are counted up, each once.
use Rattle.std.proofs.Common.{◌≡◌, ℕ, ◌==◌, ◌+◌, ◌<◌, ◌≤◌, Bool, true, false, ◌&&◌, ◌||◌, not, List, [], ◌∷◌, Option, Some, None, refl, sym, ◌∙◌, arith, inl, inr, nat_le, nat_lt, count_by, is_some, if◌then◌else◌}
use Rattle.std.specs.List.{list_all}
use Rattle.std.proofs.lemmas.Bool.{and_parts, cases_Bool, eq-eqb, eqb-true, false≢true, leb-true}
use Rattle.std.proofs.lemmas.Bool.Decides.{nat_tests}
use Rattle.cam_types.specs.declared.number.FrameNo.{FrameNo}
use Rattle.cam_types.specs.declared.partial_result.PartialResult.{PartialResult}
use Rattle.cam_types.specs.declared.script.Script.{Script}
use Rattle.trace_model.specs.declared.entry.Entry.{Entry}
use Rattle.trace_model.specs.declared.entry.Entry.TheVariants.{Shutter, Partial}
use Rattle.trace_model.specs.Entry.{is_part, is_partial}
use Rattle.trace_model.specs.Faults.{request_fault, result_fault}
use Rattle.trace_model.specs.Frames.{each_earlier, frames, has_error_request, has_shutter, shutter_time}
use Rattle.trace_model.specs.Laws.{counts_up, is_numbered}
use Rattle.trace_model.specs.Legal.{IsLegal}
use Rattle.trace_model.specs.Open.{has_error_result, has_part, is_metadata_ended}
use Rattle.trace_model.specs.Partial.{may_have_partial, partial_count, partial_of, partial_due}
use Rattle.trace_model.proofs.LawLemmas.{parts-shape}
use Rattle.basic_lemmas.proofs.Lists.{all-always}
use Rattle.basic_lemmas.proofs.Counts.{counts-once, count-cons}

-- ---- a part that is due

-- the metadata of each earlier frame ended
abbrev pub HaveEnded : ℕ → List Entry → Type 0
HaveEnded n past = each_earlier n (λ m. is_metadata_ended m past) past ≡ true

-- what a part says of the past before it
pub record PartIs (past : List Entry) (n k : ℕ) : Type 0 where
  pub shutter : has_shutter n past ≡ true
  pub number : k ≡ partial_count n past + 1
  pub short : k ≤ 3
  pub no_request : has_error_request n past ≡ false
  pub no_result : has_error_result n past ≡ false
  pub earlier : k ≡ 3 → HaveEnded n past

may_parts : (request result fault short last kept earlier : Bool) → ((not request && (not result && not fault)) && (short && (not last || (not kept && earlier)))) ≡ true → (request ≡ false) × (result ≡ false) × (short ≡ true) × (last ≡ true → earlier ≡ true)
may_parts false false false true true false true h = (refl, refl, refl, λ _. refl)
may_parts false false false true false kept earlier h = (refl, refl, refl, λ k. absurd (false≢true k))
may_parts _ _ _ _ _ _ _ h = absurd (false≢true h)

part_given : (script : Script) (past : List Entry) (m j : ℕ) (o : Option ℕ) (n : FrameNo) (k : ℕ) (part : PartialResult) → partial_of script past m j o ≡ Some (Partial n k part) → (is_some o ≡ true) × (k ≡ j) × (may_have_partial script past m j ≡ true)
part_given script past m j None n k part h = absurd (cc)
part_given script past m j (Some time) n k part h =
    elim (cases_Bool (may_have_partial script past m j)) [
      | inl may ↦ (let h' = rw may at h in let same : j ≡ k = cc in (refl, sym same, may))
      | inr other ↦ (let h' = rw other at h in absurd (cc))
    ]

timed : (n : ℕ) (past : List Entry) → is_some (shutter_time n past) ≡ true → has_shutter n past ≡ true
timed n [] h = absurd (false≢true h)
timed n (Shutter m time ∷ past) h =
    elim (cases_Bool (m.0 == n)) [
      | inl here ↦ rw here refl
      | inr other ↦ (let h' = rw other at h in rw other (timed n past h'))
    ]
timed n (e ∷ past) h = timed n past h

pub part-is : (script : Script) (past : List Entry) (n : FrameNo) (k : ℕ) (part : PartialResult) → partial_due script past n.0 ≡ Some (Partial n k part) → PartIs past n.0 k
part-is script past n k part h =
    let given = part_given script past n.0 (partial_count n.0 past + 1) (shutter_time n.0 past) n k part h in
    let may : may_have_partial script past n.0 k ≡ true = rw given.1 given.2 in
    let parts = may_parts (has_error_request n.0 past) (has_error_result n.0 past) (request_fault script n.0) (nat_le k 3) (k == 3) (result_fault script n.0) (each_earlier n.0 (λ m. is_metadata_ended m past) past) may in
    record {
      shutter = timed n.0 past given.0;
      number = given.1;
      short = leb-true k 3 parts.2;
      no_request = parts.0;
      no_result = parts.1;
      earlier = λ last. parts.3 (eq-eqb k 3 last);
    }

-- ---- parts count up

-- the part is one of the first c
abbrev pub is_within : ℕ → ℕ → Bool
is_within k c = nat_le 1 k && nat_le k c

one_more : (c k l : ℕ) → l ≡ c + 1 → ((l == k) || is_within k c) ≡ is_within k (c + 1)
one_more c k l h = grind (arith, nat_tests)

-- a frame has the parts 1 to its count
pub part-within : (script : Script) (past : List Entry) (n k : ℕ) → IsLegal script past → has_part n k past ≡ is_within k (partial_count n past)
part-within script [] n k legal = none_within k
  where
    none_within : (k : ℕ) → false ≡ is_within k 0
    none_within k = grind (arith, nat_tests)
part-within script (Partial j l part ∷ past) n k legal =
    let is = part-is script past j l part legal.0 in
    let ih = part-within script past n k legal.1 in
    let count = count-cons (is_partial n) (Partial j l part) past in
    elim (cases_Bool (j.0 == n)) [
      | inl here ↦ (
          let number : l ≡ partial_count n past + 1 = rw (eqb-true j.0 n here) at is.number in
          let one : ◌≡◌ {A = ℕ} (if j.0 == n then 1 else 0) 1 = rw here refl in
          let more : partial_count n (Partial j l part ∷ past) ≡ partial_count n past + 1 = omega (arith, count, one) in
          rw more (rw (here, ih) (one_more (partial_count n past) k l number))
          )
      | inr other ↦ (
          let zero' : ◌≡◌ {A = ℕ} (if j.0 == n then 1 else 0) 0 = rw other refl in
          let more : partial_count n (Partial j l part ∷ past) ≡ partial_count n past = omega (arith, count, zero') in
          rw more (rw other ih)
          )
    ]
part-within script (e ∷ past) n k legal = part-within script past n k legal.1

-- a part is the first of its number
first_of_number : (script : Script) (past : List Entry) (n k : ℕ) (j : FrameNo) (l : ℕ) (part : PartialResult) → IsLegal script past → partial_due script past j.0 ≡ Some (Partial j l part) → ((j.0 == n) && (l == k)) ≡ true → has_part n k past ≡ false
first_of_number script past n k j l part legal h named =
    let is = part-is script past j l part h in
    let parts = and_parts (j.0 == n) (l == k) named in
    let number : l ≡ partial_count n past + 1 = rw (eqb-true j.0 n parts.0) at is.number in
    part-within script past n k legal ∙ beyond (partial_count n past) k l number (eqb-true l k parts.1)
  where
    beyond : (c k l : ℕ) → l ≡ c + 1 → l ≡ k → is_within k c ≡ false
    beyond c k l number same = grind (arith, nat_tests)

pub part-first : (script : Script) (past : List Entry) (n : FrameNo) (k : ℕ) (part : PartialResult) → IsLegal script past → partial_due script past n.0 ≡ Some (Partial n k part) → has_part n.0 k past ≡ false
part-first script past n k part legal h =
    let named : ((n.0 == n.0) && (k == k)) ≡ true = rw (eq-eqb n.0 n.0 refl, eq-eqb k k refl) refl in
    first_of_number script past n.0 k n k part legal h named

-- each part comes once
pub part-counted : (script : Script) (past : List Entry) (n k : ℕ) → IsLegal script past → count_by (is_part n k) past ≡ (if has_part n k past then 1 else 0)
part-counted script [] n k legal = refl
part-counted script (Partial j l part ∷ past) n k legal =
    counts-once (is_part n k) (Partial j l part) past (λ named. first_of_number script past n k j l part legal.1 legal.0 named) (part-counted script past n k legal.1)
part-counted script (e ∷ past) n k legal = part-counted script past n k legal.1

few : (c : ℕ) (b : Bool) → c ≡ (if b then 1 else 0) → nat_lt c 2 ≡ true
few c true h = rw h refl
few c false h = rw h refl

named-part : (n : ℕ) (m : FrameNo) (k : ℕ) → (0 < k) × (k ≤ 3) → (not (m.0 == n) || (nat_lt 0 k && nat_le k 3)) ≡ true
named-part n m k l =
    let low = l.0 in
    let high = l.1 in
    let low' : nat_lt 0 k ≡ true = grind (arith, nat_tests, low) in
    let high' : nat_le k 3 ≡ true = grind (arith, nat_tests, high) in
    rw (low', high') (or-true (not (m.0 == n)))
  where
    or-true : (b : Bool) → (b || true) ≡ true
    or-true true = refl
    or-true false = refl

pub all-numbered : (script : Script) (past : List Entry) (n : ℕ) → IsLegal script past → list_all (is_numbered n) past ≡ true
all-numbered script [] n legal = refl
all-numbered script (Partial j l part ∷ past) n legal = rw (named-part n j l (parts-shape script past j l part legal.0), all-numbered script past n legal.1) refl
all-numbered script (e ∷ past) n legal = all-numbered script past n legal.1

pub counted-up : (script : Script) (past : List Entry) (n : ℕ) → IsLegal script past → counts_up n past ≡ true
counted-up script past n legal =
    let one = few (count_by (is_part n 1) past) (has_part n 1 past) (part-counted script past n 1 legal) in
    let two = few (count_by (is_part n 2) past) (has_part n 2 past) (part-counted script past n 2 legal) in
    let three = few (count_by (is_part n 3) past) (has_part n 3 past) (part-counted script past n 3 legal) in
    rw (all-numbered script past n legal, part-within script past n 1 legal, part-within script past n 2 legal, part-within script past n 3 legal, one, two, three) (in_turn (partial_count n past))
  where
    in_turn : (c : ℕ) → ((not (is_within 2 c) || is_within 1 c) && ((not (is_within 3 c) || is_within 2 c) && true)) ≡ true
    in_turn c = grind (arith, nat_tests)

pub parts_in_order : (script : Script) (past : List Entry) → IsLegal script past → list_all (λ n. counts_up n past) (frames past) ≡ true
parts_in_order script past legal = all-always (λ n. counts_up n past) (frames past) (λ n. counted-up script past n legal)
