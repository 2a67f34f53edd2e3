-- Fences are released once, under numbers that rise by one, and signalled once, later.
use Rattle.std.proofs.Common.{◌≡◌, ℕ, ◌==◌, ◌+◌, ◌<◌, ◌≤◌, Bool, true, false, ◌&&◌, not, List, [], ◌∷◌, Some, refl, arith, inl, inr, count_by, nat_lt, if◌then◌else◌}
use Rattle.std.specs.List.{list_all}
use Rattle.std.proofs.lemmas.Bool.{cases_Bool, false≢true, and_parts}
use Rattle.std.proofs.lemmas.Bool.Decides.{nat_tests}
use Rattle.cam_types.specs.declared.number.FenceNo.{FenceNo}
use Rattle.cam_types.specs.declared.script.Script.{Script}
use Rattle.trace_model.specs.declared.entry.Entry.{Entry}
use Rattle.trace_model.specs.declared.entry.Entry.TheVariants.{Release, Signal}
use Rattle.trace_model.specs.Complete.{released}
use Rattle.trace_model.specs.Entry.{is_release, releases_fence, signals}
use Rattle.trace_model.specs.Fence.{is_signalled}
use Rattle.trace_model.specs.Laws.{signals_after_release}
use Rattle.trace_model.specs.Legal.{IsLegal}
use Rattle.trace_model.specs.Numbers.{next_fence}
use Rattle.trace_model.specs.Release.{signal_due}
use Rattle.trace_laws.proofs.Shapes.{release-is, signal-is}
use Rattle.basic_lemmas.proofs.Counts.{count-one, count-over, none-counted, some-counted, some-where-counted, one-of}
use Rattle.basic_lemmas.proofs.Lists.{all-where}
use Rattle.basic_lemmas.proofs.Tests.{given-where, lt-more}
use Rattle.basic_lemmas.proofs.Shared.{lt-next}

-- ---- releases

-- how many releases have a fence's number: one below the next number, else none
abbrev pub ReleasedBelow : List Entry → ℕ → Type 0
ReleasedBelow past f = count_by (releases_fence f) past ≡ (if nat_lt f (next_fence past) then 1 else 0)

pub by_number : (f g n m k j : ℕ) → (g == f) ≡ true → g ≡ n → m ≡ 1 + n → k ≡ 1 + j → j ≡ (if nat_lt f n then 1 else 0) → k ≡ (if nat_lt f m then 1 else 0)
by_number f g n m k j same number next one before =
    let same' : g ≡ f = grind (arith, nat_tests) in
    let no' : nat_lt f n ≡ false = grind (arith, nat_tests, same', number) in
    let yes' : nat_lt f m ≡ true = grind (arith, nat_tests, same', number, next) in
    let before' : j ≡ 0 = rw no' at before in
    rw yes' (omega (arith, one, before'))

pub by_other : (f g n m k j : ℕ) → (g == f) ≡ false → g ≡ n → m ≡ 1 + n → k ≡ j → j ≡ (if nat_lt f n then 1 else 0) → k ≡ (if nat_lt f m then 1 else 0)
by_other f g n m k j other number next over before =
    elim (cases_Bool (nat_lt f n)) [
      | inl below ↦ (
          let below' : nat_lt f m ≡ true = grind (arith, nat_tests, below, next) in
          let before' : j ≡ 1 = rw below at before in
          rw below' (omega (arith, over, before'))
          )
      | inr above ↦ (
          let above' : nat_lt f m ≡ false = grind (arith, nat_tests, above, other, number, next) in
          let before' : j ≡ 0 = rw above at before in
          rw above' (omega (arith, over, before'))
          )
    ]

pub released-below : (script : Script) (past : List Entry) (f : ℕ) → IsLegal script past → ReleasedBelow past f
released-below script [] f legal = let none' : nat_lt f (next_fence []) ≡ false = grind (arith, nat_tests) in rw none' refl
released-below script (Release b g ∷ past) f legal =
    let ih = released-below script past f legal.1 in
    let number = (release-is past b g legal.0).1 in
    let next = count-one is_release (Release b g) past refl in
    elim (cases_Bool (g.0 == f)) [
      | inl own ↦ by_number f g.0 (next_fence past) (next_fence (Release b g ∷ past)) (count_by (releases_fence f) (Release b g ∷ past)) (count_by (releases_fence f) past) own number next (count-one (releases_fence f) (Release b g) past own) ih
      | inr other ↦ by_other f g.0 (next_fence past) (next_fence (Release b g ∷ past)) (count_by (releases_fence f) (Release b g ∷ past)) (count_by (releases_fence f) past) other number next (count-over (releases_fence f) (Release b g) past other) ih
    ]
released-below script (e ∷ past) f legal = released-below script past f legal.1

-- a fence that was released has a lower number than the next
pub released-low : (script : Script) (past : List Entry) → IsLegal script past → list_all (λ f. nat_lt f (next_fence past)) (released past) ≡ true
released-low script [] legal = refl
released-low script (Release b g ∷ past) legal =
    let ih = released-low script past legal.1 in
    let number = (release-is past b g legal.0).1 in
    let next = count-one is_release (Release b g) past refl in
    let first : nat_lt g.0 (next_fence (Release b g ∷ past)) ≡ true = lt-next g.0 (next_fence past) (next_fence (Release b g ∷ past)) number next in
    rw (first, all-where (λ f. nat_lt f (next_fence past)) (λ f. nat_lt f (next_fence (Release b g ∷ past))) (released past) (λ f low. lt-more f (next_fence past) (next_fence (Release b g ∷ past)) next low) ih) refl
released-low script (e ∷ past) legal = released-low script past legal.1

pub is_one : (k : ℕ) (below : Bool) → below ≡ true → k ≡ (if below then 1 else 0) → k ≡ 1
is_one k below yes' h = rw yes' at h

pub one_equals : (k : ℕ) → k ≡ 1 → (k == 1) ≡ true
one_equals k h = rw h refl

pub fences_released_once : (script : Script) (past : List Entry) → IsLegal script past → list_all (λ f. count_by (releases_fence f) past == 1) (released past) ≡ true
fences_released_once script past legal =
    all-where (λ f. nat_lt f (next_fence past)) (λ f. count_by (releases_fence f) past == 1) (released past)
    (λ f low. one_equals (count_by (releases_fence f) past) (is_one (count_by (releases_fence f) past) (nat_lt f (next_fence past)) low (released-below script past f legal))) (released-low script past legal)

-- ---- signals

not_yet : (past : List Entry) (f : FenceNo) → signal_due past f.0 ≡ Some (Signal f) → is_signalled f.0 past ≡ false
not_yet past f h =
    let given = given-where (nat_lt f.0 (next_fence past) && not (is_signalled f.0 past)) (Signal (record { 0 = f.0 })) (Signal f) h in
    is_false (is_signalled f.0 past) (and_parts (nat_lt f.0 (next_fence past)) (not (is_signalled f.0 past)) given.0).1
  where
    is_false : (b : Bool) → not b ≡ true → b ≡ false
    is_false true h = absurd (false≢true h)
    is_false false h = refl

pub signalled-at-most-once : (script : Script) (past : List Entry) (f : ℕ) → IsLegal script past → count_by (signals f) past ≤ 1
signalled-at-most-once script [] f legal = omega arith
signalled-at-most-once script (Signal g ∷ past) f legal =
    elim (cases_Bool (g.0 == f)) [
      | inl own ↦ (
          let same : g.0 ≡ f = grind (arith, nat_tests) in
          let none' : is_signalled f past ≡ false = rw same at (not_yet past g legal.0) in
          let before = none-counted (signals f) past none' in
          let one = count-one (signals f) (Signal g) past own in
          omega (arith, before, one)
          )
      | inr other ↦ (
          let ih = signalled-at-most-once script past f legal.1 in
          let over = count-over (signals f) (Signal g) past other in
          omega (arith, ih, over)
          )
    ]
signalled-at-most-once script (e ∷ past) f legal = signalled-at-most-once script past f legal.1

-- where each released fence was signalled, it was signalled once
pub signalled-once : (script : Script) (past : List Entry) → IsLegal script past → list_all (λ f. is_signalled f past) (released past) ≡ true → list_all (λ f. count_by (signals f) past == 1) (released past) ≡ true
signalled-once script past legal all =
    all-where (λ f. is_signalled f past) (λ f. count_by (signals f) past == 1) (released past)
    (λ f yes'. one-of (count_by (signals f) past) (some-counted (signals f) past yes') (signalled-at-most-once script past f legal)) all

-- a signal follows the release of its fence
pub fences_signalled_later : (script : Script) (past : List Entry) → IsLegal script past → signals_after_release past ≡ true
fences_signalled_later script [] legal = refl
fences_signalled_later script (Signal f ∷ past) legal =
    let low = signal-is past f legal.0 in
    let low' : nat_lt f.0 (next_fence past) ≡ true = is_low f.0 (next_fence past) low in
    let one = is_one (count_by (releases_fence f.0) past) (nat_lt f.0 (next_fence past)) low' (released-below script past f.0 legal.1) in
    let before = some-where-counted (releases_fence f.0) past (omega (arith, one)) in
    rw (before, fences_signalled_later script past legal.1) refl
  where
    is_low : (n m : ℕ) → n < m → nat_lt n m ≡ true
    is_low n m l = grind (arith, nat_tests, l)
fences_signalled_later script (e ∷ past) legal = fences_signalled_later script past legal.1
