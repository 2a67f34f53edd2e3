-- The buffers that sends took and that no entry of a kind gave back: with the entries of that kind they are at most four
-- for each frame.
use Rattle.std.proofs.Common.{◌≡◌, ℕ, ◌==◌, ◌+◌, ◌*◌, ◌≤◌, Bool, true, false, not, List, [], ◌∷◌, refl, sym, ap, ◌∙◌, arith, inl, inr, length, filter, count_by, if◌then◌else◌}
use Rattle.std.specs.List.{list_any}
use Rattle.std.proofs.lemmas.Bool.{cases_Bool, eqb-true, false≢true}
use Rattle.cam_types.specs.Four.{four_list}
use Rattle.cam_types.specs.declared.script.Script.{Script}
use Rattle.cam_types.proofs.Fours.{four-few}
use Rattle.trace_model.specs.declared.entry.Entry.{Entry}
use Rattle.trace_model.specs.declared.entry.Entry.TheVariants.{Send}
use Rattle.trace_model.specs.declared.entry.Sent.{Sent}
use Rattle.trace_model.specs.Entry.{is_numbering, names}
use Rattle.trace_model.specs.Legal.{IsLegal}
use Rattle.trace_model.specs.Numbers.{next_number}
use Rattle.trace_model.specs.Place.{Place, Pool, place}
use Rattle.trace_model.specs.Summary.{is_send}
use Rattle.basic_lemmas.proofs.Counts.{count-cons, count-one, count-over, less-without}
use Rattle.trace_laws.proofs.Conserved.{place_other}
use Rattle.cam_types.specs.declared.four.Four.{Four}
use Rattle.cam_types.specs.declared.number.FrameNo.{FrameNo}
use Rattle.cam_types.specs.declared.number.RequestId.{RequestId}

-- the buffers of targets, before others
abbrev pub buffers_before : List Sent → List ℕ → List ℕ
buffers_before [] others = others
buffers_before (t ∷ targets) others = t.buffer.0 ∷ buffers_before targets others

-- the buffers that sends took and that no entry which the test passes gave back
abbrev pub lent : (Entry → Bool) → List Entry → List ℕ
lent ends [] = []
lent ends (Send _ _ _ _ targets ∷ past) = buffers_before (four_list targets) (lent ends past)
lent ends (e ∷ past) = if ends e then filter (λ c. not (names c e)) (lent ends past) else lent ends past

abbrev pub has : ℕ → List ℕ → Bool
has b xs = list_any (λ c. c == b) xs

in_front : (b : ℕ) (targets : List Sent) (others : List ℕ) → list_any (λ t. t.buffer.0 == b) targets ≡ true → has b (buffers_before targets others) ≡ true
in_front b [] others h = absurd (false≢true h)
in_front b (t ∷ targets) others h =
    elim (cases_Bool (t.buffer.0 == b)) [
      | inl here ↦ rw here refl
      | inr no' ↦ (let h' = rw no' at h in rw no' (in_front b targets others h'))
    ]

behind : (b : ℕ) (targets : List Sent) (others : List ℕ) → has b others ≡ true → has b (buffers_before targets others) ≡ true
behind b [] others h = h
behind b (t ∷ targets) others h = let ih = behind b targets others h in grind arith

length_before : (targets : List Sent) (others : List ℕ) → length (buffers_before targets others) ≡ length targets + length others
length_before [] others = omega arith
length_before (t ∷ targets) others = let ih = length_before targets others in omega (arith, ih)

has_kept : (b : ℕ) (p : ℕ → Bool) (xs : List ℕ) → p b ≡ true → has b xs ≡ true → has b (filter p xs) ≡ true
has_kept b p [] kept h = absurd (false≢true h)
has_kept b p (x ∷ xs) kept h =
    elim (cases_Bool (x == b)) [
      | inl here ↦ (let kept' : p x ≡ true = rw (eqb-true x b here) kept in rw (kept', here) refl)
      | inr other ↦ (
          let h' = rw other at h in
          elim (cases_Bool (p x)) [ inl yes' ↦ rw (yes', other) (has_kept b p xs kept h') | inr no' ↦ rw no' (has_kept b p xs kept h') ]
          )
    ]

-- an entry that doesn't name a buffer doesn't give it back
unnamed_stays : (ended : Bool) (e : Entry) (b : ℕ) (xs : List ℕ) → names b e ≡ false → has b xs ≡ true → has b (if ended then filter (λ c. not (names c e)) xs else xs) ≡ true
unnamed_stays true e b xs other h = has_kept b (λ c. not (names c e)) xs (rw other refl) h
unnamed_stays false e b xs other h = h

one_less : (e : Entry) (b : ℕ) (xs : List ℕ) → names b e ≡ true → has b xs ≡ true → length (filter (λ c. not (names c e)) xs) + 1 ≤ length xs
one_less e b xs named there = less-without (λ c. not (names c e)) (λ c. c == b) xs (λ c same. rw (eqb-true c b same, named) refl) there

-- where a buffer is held still after an entry other than a send names it, it was before, and the entry gave nothing back
abbrev pub HeldBefore : Script → (Entry → Bool) → (Place → Bool) → Type 0
HeldBefore script ends held = (past : List Entry) (e : Entry) (b : ℕ) → IsLegal script (e ∷ past) → is_send e ≡ false → names b e ≡ true → held (place b (e ∷ past)) ≡ true → (ends e ≡ false) × (held (place b past) ≡ true)

-- so what is held is lent
pub held_lent : (script : Script) (ends : Entry → Bool) (held : Place → Bool) (past : List Entry) (b : ℕ) → held Pool ≡ false → HeldBefore script ends held → IsLegal script past → held (place b past) ≡ true → has b (lent ends past) ≡ true
held_lent script ends held [] b pool before legal h = absurd (false≢true (sym pool ∙ h))
held_lent script ends held (Send n r i same targets ∷ past) b pool before legal h =
    elim (cases_Bool (names b (Send n r i same targets))) [
      | inl named ↦ in_front b (four_list targets) (lent ends past) named
      | inr other ↦ behind b (four_list targets) (lent ends past) (held_lent script ends held past b pool before legal.1 (sym (ap held (place_other b (Send n r i same targets) past other)) ∙ h))
    ]
held_lent script ends held (e ∷ past) b pool before legal h =
    elim (cases_Bool (names b e)) [
      | inl named ↦ (let was = before past e b legal refl named h in rw was.0 (held_lent script ends held past b pool before legal.1 was.1))
      | inr other ↦ unnamed_stays (ends e) e b (lent ends past) other (held_lent script ends held past b pool before legal.1 (sym (ap held (place_other b e past other)) ∙ h))
    ]

-- each entry that the test passes is no send and gives back a buffer that is lent
pub record GivesBack (script : Script) (ends : Entry → Bool) : Type 0 where
  pub sends : (n : FrameNo) (r : RequestId) (i : ℕ) (same : Bool) (targets : Four Sent) → ends (Send n r i same targets) ≡ false
  pub gives : (past : List Entry) (e : Entry) → IsLegal script (e ∷ past) → ends e ≡ true → (b : ℕ) × (names b e ≡ true) × (has b (lent ends past) ≡ true)

pub ends_and_lent : (script : Script) (ends : Entry → Bool) (past : List Entry) → GivesBack script ends → IsLegal script past → count_by ends past + length (lent ends past) ≤ 4 * next_number past
ends_and_lent script ends [] back legal = omega arith
ends_and_lent script ends (Send n r i same targets ∷ past) back legal =
    let ih = ends_and_lent script ends past back legal.1 in
    let number = count-cons is_numbering (Send n r i same targets) past in
    let over = count-over ends (Send n r i same targets) past (back.sends n r i same targets) in
    let more = length_before (four_list targets) (lent ends past) in
    let few = four-few targets in
    omega (arith, ih, number, over, more, few)
ends_and_lent script ends (e ∷ past) back legal =
    let ih = ends_and_lent script ends past back legal.1 in
    let number = count-cons is_numbering e past in
    elim (cases_Bool (ends e)) [
      | inl ended ↦ (
          let given = back.gives past e legal ended in
          let one = count-one ends e past ended in
          let less : length (lent ends (e ∷ past)) + 1 ≤ length (lent ends past) = rw ended (one_less e given.0 (lent ends past) given.1 given.2) in
          omega (arith, ih, number, one, less)
          )
      | inr none ↦ (
          let over = count-over ends e past none in
          let same : length (lent ends (e ∷ past)) ≡ length (lent ends past) = rw none refl in
          omega (arith, ih, number, over, same)
          )
    ]
