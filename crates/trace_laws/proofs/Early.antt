-- Buffers that came back early: the frame stays open until their device fence is signalled, which is once.
use Rattle.std.proofs.Common.{◌≡◌, ℕ, ◌==◌, ◌≤◌, Bool, true, false, ◌&&◌, ◌||◌, not, List, [], ◌∷◌, Some, refl, sym, ◌∙◌, arith, inl, inr, find, count_by, nat_lt, if◌then◌else◌}
use Rattle.std.specs.List.{list_all, list_any}
use Rattle.std.proofs.lemmas.Bool.{cases_Bool, false≢true, and_parts}
use Rattle.std.proofs.lemmas.Bool.Decides.{nat_tests}
use Rattle.cam_types.specs.Four.{four_list}
use Rattle.cam_types.specs.declared.number.BufferId.{BufferId}
use Rattle.cam_types.specs.declared.number.DeviceFenceNo.{DeviceFenceNo}
use Rattle.cam_types.specs.declared.number.FrameNo.{FrameNo}
use Rattle.cam_types.specs.declared.number.StreamIx.{StreamIx}
use Rattle.cam_types.specs.declared.script.Script.{Script}
use Rattle.trace_model.specs.declared.entry.Entry.{Entry}
use Rattle.trace_model.specs.declared.entry.Entry.TheVariants.{Send, Filled, Failed, Release, Early, Late}
use Rattle.trace_model.specs.declared.entry.Sent.{Sent}
use Rattle.trace_model.specs.Allowed.{IsAllowed}
use Rattle.trace_model.specs.Complete.{IsComplete, device_fences}
use Rattle.trace_model.specs.Entry.{brings, is_early, is_early_with, is_late_with}
use Rattle.trace_model.specs.Configuration.{buffers_of}
use Rattle.trace_model.specs.Fence.{fence_of, is_late, is_same_fence}
use Rattle.trace_model.specs.Filled.{early_due}
use Rattle.trace_model.specs.Frames.{frames, has_target, is_sent, targets_of}
use Rattle.trace_model.specs.Laws.{FencesOnce, early_buffers, late_after_early, releases_what_is_there}
use Rattle.trace_model.specs.Legal.{IsLegal}
use Rattle.trace_model.specs.Numbers.{next_early}
use Rattle.trace_model.specs.Place.{Pool, is_at, place}
use Rattle.trace_model.specs.Send.{takes_from_pool}
use Rattle.trace_model.specs.Open.{all_settled, early_fences, is_metadata_ended, is_open, is_returned, is_settled}
use Rattle.trace_model.proofs.LawLemmas.{sends-from-pool}
use Rattle.trace_laws.proofs.Shapes.{early-is, late-is, release-there}
use Rattle.trace_laws.specs.BufferLaws.{sends_what_is_home}
use Rattle.trace_laws.proofs.Fences.{by_number, by_other, fences_released_once, fences_signalled_later, is_one, one_equals, signalled-once}
use Rattle.trace_laws.proofs.Home.{each-home}
use Rattle.trace_laws.proofs.Once.{out-not-returned}
use Rattle.trace_laws.proofs.Returns.{ComesBack, early-back, failed-back, filled-back}
use Rattle.trace_laws.proofs.BufferSends.{not-the-next, out-sent, send-number}
use Rattle.basic_lemmas.proofs.Counts.{count-one, count-over, none-counted, some-counted, some-where-counted, one-of}
use Rattle.basic_lemmas.proofs.Lists.{all-where, found-any}
use Rattle.trace_laws.proofs.Frames.{sent-listed}
use Rattle.basic_lemmas.proofs.Shared.{lt-next}
use Rattle.basic_lemmas.proofs.Tests.{lt-more}

-- ---- what an early return leaves

pub record Given (past : List Entry) (n s f : ℕ) : Type 0 where
  pub returned : is_returned n s past ≡ true
  pub brought : list_any (brings n s) past ≡ false
  pub fences : early_fences n s past ≡ f ∷ []
  pub target : has_target n s past ≡ true
  pub sent : is_sent n past ≡ true

pub not-brought : (n s : ℕ) (past : List Entry) → is_returned n s past ≡ false → list_any (brings n s) past ≡ false
not-brought n s [] h = refl
not-brought n s (Filled m t b f d ∷ past) h =
    elim (cases_Bool ((m.0 == n) && (t.0 == s))) [
      | inl own ↦ (let h' = rw own at h in absurd (false≢true (sym h')))
      | inr other ↦ (let h' = rw other at h in rw other (not-brought n s past h'))
    ]
not-brought n s (Failed m t b f ∷ past) h =
    elim (cases_Bool ((m.0 == n) && (t.0 == s))) [
      | inl own ↦ (let h' = rw own at h in absurd (false≢true (sym h')))
      | inr other ↦ (let h' = rw other at h in rw other (not-brought n s past h'))
    ]
not-brought n s (Early m t b d ∷ past) h =
    elim (cases_Bool ((m.0 == n) && (t.0 == s))) [
      | inl own ↦ (let h' = rw own at h in absurd (false≢true (sym h')))
      | inr other ↦ (let h' = rw other at h in not-brought n s past h')
    ]
not-brought n s (e ∷ past) h = not-brought n s past h

pub not-given : (n s : ℕ) (past : List Entry) → is_returned n s past ≡ false → early_fences n s past ≡ []
not-given n s [] h = refl
not-given n s (Filled m t b f d ∷ past) h =
    elim (cases_Bool ((m.0 == n) && (t.0 == s))) [
      | inl own ↦ (let h' = rw own at h in absurd (false≢true (sym h')))
      | inr other ↦ (let h' = rw other at h in not-given n s past h')
    ]
not-given n s (Failed m t b f ∷ past) h =
    elim (cases_Bool ((m.0 == n) && (t.0 == s))) [
      | inl own ↦ (let h' = rw own at h in absurd (false≢true (sym h')))
      | inr other ↦ (let h' = rw other at h in not-given n s past h')
    ]
not-given n s (Early m t b d ∷ past) h =
    elim (cases_Bool ((m.0 == n) && (t.0 == s))) [
      | inl own ↦ (let h' = rw own at h in absurd (false≢true (sym h')))
      | inr other ↦ (let h' = rw other at h in rw other (not-given n s past h'))
    ]
not-given n s (e ∷ past) h = not-given n s past h

-- a return of another pair, since this one came back before
other-pair : (script : Script) (past : List Entry) (m u c n s f : ℕ) → IsLegal script past → ComesBack past m u c → Given past n s f → ((m == n) && (u == s)) ≡ false
other-pair script past m u c n s f legal back g =
    elim (cases_Bool ((m == n) && (u == s))) [
      | inl own ↦ (
          let names' = and_parts (m == n) (u == s) own in
          let frame : m ≡ n = grind (arith, nat_tests, names'.0) in
          let stream : u ≡ s = grind (arith, nat_tests, names'.1) in
          let none' = out-not-returned script past m u c legal back.out in
          let none'' : is_returned n s past ≡ false = rw (frame, stream) at none' in
          absurd (false≢true (sym none'' ∙ g.returned))
          )
      | inr other ↦ other
    ]

new-given : (script : Script) (past : List Entry) (e : Entry) (n : FrameNo) (s : StreamIx) (b : BufferId) (f : DeviceFenceNo) → e ≡ Early n s b f → IsLegal script past → IsAllowed script past e → Given (e ∷ past) n.0 s.0 f.0
new-given script past e n s b f is legal may = rw is (now script past n s b f legal (rw is at may))
  where
    now : (script : Script) (past : List Entry) (n : FrameNo) (s : StreamIx) (b : BufferId) (f : DeviceFenceNo) → IsLegal script past → early_due script past n.0 s.0 ≡ Some (Early n s b f) → Given (Early n s b f ∷ past) n.0 s.0 f.0
    now script past n s b f legal may =
        let back = early-back script past n s b f may in
        let none' = out-not-returned script past n.0 s.0 b.0 legal back.out in
        let one : (n.0 == n.0) ≡ true = grind (arith, nat_tests) in
        let two : (s.0 == s.0) ≡ true = grind (arith, nat_tests) in
        record {
          returned = rw (one, two) refl;
          brought = not-brought n.0 s.0 past none';
          fences = rw (one, two, not-given n.0 s.0 past none') refl;
          target = found-any (λ t. t.stream.0 == s.0) (targets_of n.0 past) back.target back.found;
          sent = out-sent past n.0 s.0 b.0 back.out;
        }

pub given : (script : Script) (past : List Entry) (d : ℕ) (n : FrameNo) (s : StreamIx) (b : BufferId) (f : DeviceFenceNo) → IsLegal script past → find (is_early_with d) past ≡ Some (Early n s b f) → Given past n.0 s.0 f.0
given script [] d n s b f legal found = absurd (cc)
given script (Early m t c g ∷ past) d n s b f legal found =
    elim (cases_Bool (g.0 == d)) [
      | inl here ↦ (
          let found' = rw here at found in
          let same : Early m t c g ≡ Early n s b f = cc in
          new-given script past (Early m t c g) n s b f same legal.1 legal.0
          )
      | inr no' ↦ (
          let found' = rw no' at found in
          let p = given script past d n s b f legal.1 found' in
          let other = other-pair script past m.0 t.0 c.0 n.0 s.0 f.0 legal.1 (early-back script past m t c g legal.0) p in
          record { returned = rw other (p.returned); brought = p.brought; fences = rw other (p.fences); target = p.target; sent = p.sent }
          )
    ]
given script (Filled m t c g x ∷ past) d n s b f legal found =
    let p = given script past d n s b f legal.1 found in
    let other = other-pair script past m.0 t.0 c.0 n.0 s.0 f.0 legal.1 (filled-back script past m t c g x legal.0) p in
    record { returned = rw other (p.returned); brought = rw other (p.brought); fences = p.fences; target = p.target; sent = p.sent }
given script (Failed m t c g ∷ past) d n s b f legal found =
    let p = given script past d n s b f legal.1 found in
    let other = other-pair script past m.0 t.0 c.0 n.0 s.0 f.0 legal.1 (failed-back past m t c g legal.0) p in
    record { returned = rw other (p.returned); brought = rw other (p.brought); fences = p.fences; target = p.target; sent = p.sent }
given script (Send m r i same targets ∷ past) d n s b f legal found =
    let p = given script past d n s b f legal.1 found in
    let apart = not-the-next script past m.0 n.0 legal.1 (send-number script past m.0 r.0 i same targets legal.0) p.sent in
    record { returned = p.returned; brought = p.brought; fences = p.fences; target = rw apart (p.target); sent = rw apart (p.sent) }
given script (e ∷ past) d n s b f legal found =
    let p = given script past d n s b f legal.1 found in
    record { returned = p.returned; brought = p.brought; fences = p.fences; target = p.target; sent = p.sent }

-- the device is done with it where the device fence is signalled
pub settled-late : (past : List Entry) (n s f : ℕ) → Given past n s f → is_settled n s past ≡ is_late f past
settled-late past n s f g = rw (g.brought, g.fences) (or-no (is_late f past))
  where
    or-no : (b : Bool) → (b || false) ≡ b
    or-no true = refl
    or-no false = refl

not-all : {X : Type 0} (p q : X → Bool) (xs : List X) → ((x : X) → q x ≡ true → p x ≡ false) → list_any q xs ≡ true → list_all p xs ≡ false
not-all p q [] fails any = absurd (false≢true any)
not-all p q (x ∷ xs) fails any =
    elim (cases_Bool (q x)) [
      | inl here ↦ rw (fails x here) refl
      | inr no' ↦ (let any' = rw no' at any in let ih = not-all p q xs fails any' in elim (cases_Bool (p x)) [ inl yes' ↦ rw yes' ih | inr no'' ↦ rw no'' refl ])
    ]

-- a frame with a device fence that isn't signalled is open
pub open-until-late : (past : List Entry) (n s f : ℕ) → Given past n s f → is_late f past ≡ false → is_open n past ≡ true
open-until-late past n s f g early =
    let unsettled : is_settled n s past ≡ false = settled-late past n s f g ∙ early in
    let all : all_settled n past ≡ false = not-all (λ (t : Sent). is_settled n t.stream.0 past) (λ t. t.stream.0 == s) (targets_of n past) (λ t here. at-stream past n s t unsettled here) g.target in
    rw (g.sent, all) (ended-or-not (is_metadata_ended n past))
  where
    at-stream : (past : List Entry) (n s : ℕ) (t : Sent) → is_settled n s past ≡ false → (t.stream.0 == s) ≡ true → is_settled n t.stream.0 past ≡ false
    at-stream past n s t unsettled here = let same : t.stream.0 ≡ s = grind (arith, nat_tests, here) in rw same unsettled

    ended-or-not : (b : Bool) → not (b && false) ≡ true
    ended-or-not true = refl
    ended-or-not false = refl

-- ---- device fences are given once

abbrev pub GivenBelow : List Entry → ℕ → Type 0
GivenBelow past d = count_by (is_early_with d) past ≡ (if nat_lt d (next_early past) then 1 else 0)

pub given-below : (script : Script) (past : List Entry) (d : ℕ) → IsLegal script past → GivenBelow past d
given-below script [] d legal = let none' : nat_lt d (next_early []) ≡ false = grind (arith, nat_tests) in rw none' refl
given-below script (Early n s b g ∷ past) d legal =
    let ih = given-below script past d legal.1 in
    let number = (early-is script past n s b g legal.0).4 in
    let next = count-one is_early (Early n s b g) past refl in
    elim (cases_Bool (g.0 == d)) [
      | inl own ↦ by_number d g.0 (next_early past) (next_early (Early n s b g ∷ past)) (count_by (is_early_with d) (Early n s b g ∷ past)) (count_by (is_early_with d) past) own number next (count-one (is_early_with d) (Early n s b g) past own) ih
      | inr other ↦ by_other d g.0 (next_early past) (next_early (Early n s b g ∷ past)) (count_by (is_early_with d) (Early n s b g ∷ past)) (count_by (is_early_with d) past) other number next (count-over (is_early_with d) (Early n s b g) past other) ih
    ]
given-below script (e ∷ past) d legal = given-below script past d legal.1

given-low : (script : Script) (past : List Entry) → IsLegal script past → list_all (λ d. nat_lt d (next_early past)) (device_fences past) ≡ true
given-low script [] legal = refl
given-low script (Early n s b g ∷ past) legal =
    let ih = given-low script past legal.1 in
    let number = (early-is script past n s b g legal.0).4 in
    let next = count-one is_early (Early n s b g) past refl in
    let first : nat_lt g.0 (next_early (Early n s b g ∷ past)) ≡ true = lt-next g.0 (next_early past) (next_early (Early n s b g ∷ past)) number next in
    rw (first, all-where (λ d. nat_lt d (next_early past)) (λ d. nat_lt d (next_early (Early n s b g ∷ past))) (device_fences past) (λ d low. lt-more d (next_early past) (next_early (Early n s b g ∷ past)) next low) ih) refl
given-low script (e ∷ past) legal = given-low script past legal.1

given_once : (script : Script) (past : List Entry) → IsLegal script past → list_all (λ d. count_by (is_early_with d) past == 1) (device_fences past) ≡ true
given_once script past legal =
    all-where (λ d. nat_lt d (next_early past)) (λ d. count_by (is_early_with d) past == 1) (device_fences past)
    (λ d low. one_equals (count_by (is_early_with d) past) (is_one (count_by (is_early_with d) past) (nat_lt d (next_early past)) low (given-below script past d legal))) (given-low script past legal)

-- ---- and signalled once

late-at-most-once : (script : Script) (past : List Entry) (d : ℕ) → IsLegal script past → count_by (is_late_with d) past ≤ 1
late-at-most-once script [] d legal = omega arith
late-at-most-once script (Late g x ∷ past) d legal =
    elim (cases_Bool (g.0 == d)) [
      | inl own ↦ (
          let same : g.0 ≡ d = grind (arith, nat_tests) in
          let none' : is_late g.0 past ≡ false = (late-is script past g x legal.0).5 in
          let none'' : is_late d past ≡ false = rw same at none' in
          let before = none-counted (is_late_with d) past none'' in
          let one = count-one (is_late_with d) (Late g x) past own in
          omega (arith, before, one)
          )
      | inr other ↦ (
          let ih = late-at-most-once script past d legal.1 in
          let over = count-over (is_late_with d) (Late g x) past other in
          omega (arith, ih, over)
          )
    ]
late-at-most-once script (e ∷ past) d legal = late-at-most-once script past d legal.1

abbrev pub FoundEarly : List Entry → ℕ → Type 0
FoundEarly past d = (n : FrameNo) × (s : StreamIx) × (b : BufferId) × (f : DeviceFenceNo) × (find (is_early_with d) past ≡ Some (Early n s b f)) × (f.0 ≡ d)

pub found-early : (past : List Entry) (d : ℕ) → list_any (is_early_with d) past ≡ true → FoundEarly past d
found-early [] d h = absurd (false≢true h)
found-early (Early n s b f ∷ past) d h =
    elim (cases_Bool (f.0 == d)) [
      | inl here ↦ (n, s, b, f, rw here refl, grind (arith, nat_tests))
      | inr no' ↦ (
          let h' = rw no' at h in
          let ih = found-early past d h' in
          (ih.0, ih.1, ih.2, ih.3, rw no' (ih.4), ih.5)
          )
    ]
found-early (e ∷ past) d h = let ih = found-early past d h in (ih.0, ih.1, ih.2, ih.3, ih.4, ih.5)

quiet-closed : (past : List Entry) (n : ℕ) (xs : List ℕ) → list_all (λ m. not (is_open m past)) xs ≡ true → list_any (λ m. m == n) xs ≡ true → is_open n past ≡ false
quiet-closed past n [] all any = absurd (false≢true any)
quiet-closed past n (m ∷ xs) all any =
    let parts = and_parts (not (is_open m past)) (list_all (λ k. not (is_open k past)) xs) all in
    elim (cases_Bool (m == n)) [
      | inl here ↦ (let same : m ≡ n = grind (arith, nat_tests, here) in let closed : not (is_open n past) ≡ true = rw same at parts.0 in is-false (is_open n past) closed)
      | inr no' ↦ (let any' = rw no' at any in quiet-closed past n xs parts.1 any')
    ]
  where
    is-false : (b : Bool) → not b ≡ true → b ≡ false
    is-false true h = absurd (false≢true h)
    is-false false h = refl

-- where no frame is open each device fence that was given is signalled
pub late-when-quiet : (script : Script) (past : List Entry) (d : ℕ) → IsLegal script past → list_all (λ n. not (is_open n past)) (frames past) ≡ true → nat_lt d (next_early past) ≡ true → is_late d past ≡ true
late-when-quiet script past d legal quiet low =
    let one = is_one (count_by (is_early_with d) past) (nat_lt d (next_early past)) low (given-below script past d legal) in
    let any = some-where-counted (is_early_with d) past (omega (arith, one)) in
    let found = found-early past d any in
    let n : FrameNo = found.0 in
    let s : StreamIx = found.1 in
    let b : BufferId = found.2 in
    let f : DeviceFenceNo = found.3 in
    let g : Given past n.0 s.0 f.0 = given script past d n s b f legal found.4 in
    elim (cases_Bool (is_late f.0 past)) [
      | inl late ↦ (let same : f.0 ≡ d = found.5 in rw same at late)
      | inr early ↦ (
          let open' = open-until-late past n.0 s.0 f.0 g early in
          let closed = quiet-closed past n.0 (frames past) quiet (sent-listed past n.0 g.sent) in
          absurd (false≢true (sym closed ∙ open'))
          )
    ]

late_once : (script : Script) (past : List Entry) → IsLegal script past → list_all (λ n. not (is_open n past)) (frames past) ≡ true → list_all (λ d. count_by (is_late_with d) past == 1) (device_fences past) ≡ true
late_once script past legal quiet =
    all-where (λ d. nat_lt d (next_early past)) (λ d. count_by (is_late_with d) past == 1) (device_fences past)
    (λ d low. one-of (count_by (is_late_with d) past) (some-counted (is_late_with d) past (late-when-quiet script past d legal quiet low)) (late-at-most-once script past d legal)) (given-low script past legal)

pub late_later : (script : Script) (past : List Entry) → IsLegal script past → late_after_early past ≡ true
late_later script [] legal = refl
late_later script (Late d x ∷ past) legal =
    let is = late-is script past d x legal.0 in
    let before = found-any (is_early_with d.0) past (Early is.0 is.1 is.2 is.3) is.4 in
    rw (before, late_later script past legal.1) refl
late_later script (e ∷ past) legal = late_later script past legal.1

pub released_when_there : (script : Script) (past : List Entry) → IsLegal script past → releases_what_is_there past ≡ true
released_when_there script [] legal = refl
released_when_there script (Release b f ∷ past) legal =
    rw (release-there past b f legal.0, released_when_there script past legal.1) refl
released_when_there script (e ∷ past) legal = released_when_there script past legal.1

from-pool : (past : List Entry) (t : Sent) → takes_from_pool past t ≡ true → is_at (place t.buffer.0 past) Pool ≡ true
from-pool past t h =
    let own = list_any (λ b. b == t.buffer.0) (buffers_of past t.stream.0) in
    let home = is_at (place t.buffer.0 past) Pool in
    let fence = is_same_fence t.fence (fence_of t.buffer.0 past) in
    (and_parts home fence (and_parts own (home && fence) h).1).0

pub sent_from_home : (script : Script) (past : List Entry) → IsLegal script past → sends_what_is_home past ≡ true
sent_from_home script [] legal = refl
sent_from_home script (Send m r i same targets ∷ past) legal =
    let home = all-where (takes_from_pool past) (λ t. is_at (place t.buffer.0 past) Pool) (four_list targets) (from-pool past) (sends-from-pool script past m.0 r.0 i same targets legal.0) in
    rw (home, sent_from_home script past legal.1) refl
sent_from_home script (e ∷ past) legal = sent_from_home script past legal.1

pub fences_once : (script : Script) (past : List Entry) → IsComplete script past → FencesOnce past
fences_once script past complete = record {
  released_once = fences_released_once script past complete.legal;
  signalled_once = signalled-once script past complete.legal complete.signals;
  later = fences_signalled_later script past complete.legal;
  early_once = given_once script past complete.legal;
  late_once = late_once script past complete.legal complete.open_frames;
  late_later = late_later script past complete.legal;
  released_later = released_when_there script past complete.legal;
  home = each-home script past (early_buffers past) complete;
}
