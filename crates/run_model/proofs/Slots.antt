-- The slots that frames and fences make: some for each frame, for each target, for each fence, and for each device fence.
use Rattle.std.proofs.Common.{◌≡◌, ℕ, ◌==◌, ◌+◌, ◌*◌, ◌<◌, ◌≤◌, Bool, true, false, List, [], ◌∷◌, ◌++◌, Option, arith, inl, inr, length, length-append}
use Rattle.std.specs.List.{list_any}
use Rattle.std.proofs.lemmas.Bool.{cases_Bool, eqb-true, false≢true}
use Rattle.std.proofs.lemmas.Bool.Decides.{nat_tests}
use Rattle.cam_types.specs.Four.{four_list}
use Rattle.cam_types.specs.declared.script.Script.{Script}
use Rattle.trace_model.specs.declared.entry.Entry.{Entry}
use Rattle.trace_model.specs.declared.entry.Entry.TheVariants.{Send, Dropped, Release, Early}
use Rattle.trace_model.specs.declared.entry.Sent.{Sent}
use Rattle.trace_model.specs.Entry.{is_early, is_early_with, is_numbering, is_release}
use Rattle.trace_model.specs.Frames.{has_target, is_sent}
use Rattle.trace_model.specs.Legal.{IsLegal}
use Rattle.trace_model.specs.Numbers.{next_early, next_fence, next_number}
use Rattle.trace_laws.proofs.Shapes.{release-is}
use Rattle.run_model.proofs.Room.{HasRoom, Slot, room-more}
use Rattle.basic_lemmas.proofs.Counts.{count-cons}
use Rattle.basic_lemmas.proofs.Lists.{any-first, any-back}
use Rattle.cam_types.proofs.Fours.{four-few}

abbrev pub pairs : (ℕ → ℕ → List Slot) → ℕ → List Sent → List Slot
pairs P n [] = []
pairs P n (t ∷ targets) = P n t.stream.0 ++ pairs P n targets

abbrev pub slots : (ℕ → List Slot) → (ℕ → ℕ → List Slot) → (ℕ → List Slot) → (ℕ → List Slot) → List Entry → List Slot
slots F P S E [] = []
slots F P S E (Send n _ _ _ targets ∷ past) = (F n.0 ++ pairs P n.0 (four_list targets)) ++ slots F P S E past
slots F P S E (Release _ f ∷ past) = S f.0 ++ slots F P S E past
slots F P S E (Early _ _ _ d ∷ past) = E d.0 ++ slots F P S E past
slots F P S E (_ ∷ past) = slots F P S E past

-- so many for each target are so many times as many
pub pairs-few : (P : ℕ → ℕ → List Slot) (k : ℕ) → ((n s : ℕ) → length (P n s) ≡ k) → (n : ℕ) (targets : List Sent) → length (pairs P n targets) ≡ k * length targets
pairs-few P k each n [] = omega arith
pairs-few P k each n (t ∷ targets) = rw (length-append (P n t.stream.0) (pairs P n targets), each n t.stream.0, pairs-few P k each n targets) (grind arith)

module _ (F : ℕ → List Slot) (P : ℕ → ℕ → List Slot) (S : ℕ → List Slot) (E : ℕ → List Slot) where
  -- no entry takes a slot away
  pub slots-keep : (p : Slot → Bool) (e : Entry) (past : List Entry) → list_any p (slots F P S E past) ≡ true → list_any p (slots F P S E (e ∷ past)) ≡ true
  slots-keep p (Send n r i same targets) past h = any-back p (F n.0 ++ pairs P n.0 (four_list targets)) (slots F P S E past) h
  slots-keep p (Release b f) past h = any-back p (S f.0) (slots F P S E past) h
  slots-keep p (Early n s b d) past h = any-back p (E d.0) (slots F P S E past) h
  slots-keep p _ past h = h

  pub room-after : {X : Type 0} (key : X → Option Slot) (xs : List X) (e : Entry) (past : List Entry) → HasRoom key xs (slots F P S E past) → HasRoom key xs (slots F P S E (e ∷ past))
  room-after key xs (Send n r i same targets) past room = room-more key xs (F n.0 ++ pairs P n.0 (four_list targets)) (slots F P S E past) room
  room-after key xs (Release b f) past room = room-more key xs (S f.0) (slots F P S E past) room
  room-after key xs (Early n s b d) past room = room-more key xs (E d.0) (slots F P S E past) room
  room-after key xs _ past room = room

  -- the slots of a frame that was sent
  pub frame-slot : (p : Slot → Bool) (n : ℕ) (past : List Entry) → list_any p (F n) ≡ true → is_sent n past ≡ true → list_any p (slots F P S E past) ≡ true
  frame-slot p n [] any sent = absurd (false≢true sent)
  frame-slot p n (Send m r i same targets ∷ past) any sent =
      elim (cases_Bool (m.0 == n)) [
        | inl here ↦ (
            let any' : list_any p (F m.0) ≡ true = rw (eqb-true m.0 n here) any in
            any-first p (F m.0 ++ pairs P m.0 (four_list targets)) (slots F P S E past) (any-first p (F m.0) (pairs P m.0 (four_list targets)) any')
            )
        | inr other ↦ (let sent' = rw other at sent in slots-keep p (Send m r i same targets) past (frame-slot p n past any sent'))
      ]
  frame-slot p n (e ∷ past) any sent = slots-keep p e past (frame-slot p n past any sent)

  pair_slot : (p : Slot → Bool) (n s : ℕ) (targets : List Sent) → list_any p (P n s) ≡ true → list_any (λ t. t.stream.0 == s) targets ≡ true → list_any p (pairs P n targets) ≡ true
  pair_slot p n s [] any has = absurd (false≢true has)
  pair_slot p n s (t ∷ targets) any has =
      elim (cases_Bool (t.stream.0 == s)) [
        | inl here ↦ (let any' : list_any p (P n t.stream.0) ≡ true = rw (eqb-true t.stream.0 s here) any in any-first p (P n t.stream.0) (pairs P n targets) any')
        | inr other ↦ (let has' = rw other at has in any-back p (P n t.stream.0) (pairs P n targets) (pair_slot p n s targets any has'))
      ]

  -- those of a target
  pub target-slot : (p : Slot → Bool) (n s : ℕ) (past : List Entry) → list_any p (P n s) ≡ true → has_target n s past ≡ true → list_any p (slots F P S E past) ≡ true
  target-slot p n s [] any has = absurd (false≢true has)
  target-slot p n s (Send m r i same targets ∷ past) any has =
      elim (cases_Bool (m.0 == n)) [
        | inl here ↦ (
            let has' = rw here at has in
            let any' : list_any p (P m.0 s) ≡ true = rw (eqb-true m.0 n here) any in
            any-first p (F m.0 ++ pairs P m.0 (four_list targets)) (slots F P S E past) (any-back p (F m.0) (pairs P m.0 (four_list targets)) (pair_slot p m.0 s (four_list targets) any' has'))
            )
        | inr other ↦ (let has' = rw other at has in slots-keep p (Send m r i same targets) past (target-slot p n s past any has'))
      ]
  target-slot p n s (e ∷ past) any has = slots-keep p e past (target-slot p n s past any has)

  -- those of a fence
  pub fence-slot : (p : Slot → Bool) (script : Script) (f : ℕ) (past : List Entry) → IsLegal script past → list_any p (S f) ≡ true → f < next_fence past → list_any p (slots F P S E past) ≡ true
  fence-slot p script f [] legal any less = absurd (omega (arith, less))
  fence-slot p script f (Release b g ∷ past) legal any less =
      let number = (release-is past b g legal.0).1 in
      let one = count-cons is_release (Release b g) past in
      elim (cases_Bool (g.0 == f)) [
        | inl here ↦ (let any' : list_any p (S g.0) ≡ true = rw (eqb-true g.0 f here) any in any-first p (S g.0) (slots F P S E past) any')
        | inr other ↦ (
            let below : f < next_fence past = below_last f g.0 (next_fence past) (next_fence (Release b g ∷ past)) number one less other in
            any-back p (S g.0) (slots F P S E past) (fence-slot p script f past legal.1 any below)
            )
      ]
    where
      below_last : (f g n m : ℕ) → g ≡ n → m ≡ 1 + n → f < m → (g == f) ≡ false → f < n
      below_last f g n m number one less other = grind (arith, nat_tests, number, one, less, other)
  fence-slot p script f (e ∷ past) legal any less = slots-keep p e past (fence-slot p script f past legal.1 any less)

  -- those of a device fence
  pub early-slot : (p : Slot → Bool) (d : ℕ) (past : List Entry) → list_any p (E d) ≡ true → list_any (is_early_with d) past ≡ true → list_any p (slots F P S E past) ≡ true
  early-slot p d [] any given = absurd (false≢true given)
  early-slot p d (Early n s b f ∷ past) any given =
      elim (cases_Bool (f.0 == d)) [
        | inl here ↦ (let any' : list_any p (E f.0) ≡ true = rw (eqb-true f.0 d here) any in any-first p (E f.0) (slots F P S E past) any')
        | inr other ↦ (let given' = rw other at given in any-back p (E f.0) (slots F P S E past) (early-slot p d past any given'))
      ]
  early-slot p d (e ∷ past) any given = slots-keep p e past (early-slot p d past any given)

  -- so many for each frame with its targets, so many for each fence, so many for each device fence
  pub slots-few : (a c g : ℕ) (past : List Entry) → ((n : ℕ) (targets : List Sent) → length targets ≤ 4 → length (F n) + length (pairs P n targets) ≤ a) → ((f : ℕ) → length (S f) ≡ c) → ((d : ℕ) → length (E d) ≡ g) → length (slots F P S E past) ≤ a * next_number past + (c * next_fence past + g * next_early past)
  slots-few a c g [] frame fence early = omega arith
  slots-few a c g (Send n r i same targets ∷ past) frame fence early =
      let ih = slots-few a c g past frame fence early in
      let one = count-cons is_numbering (Send n r i same targets) past in
      let new = length-append (F n.0) (pairs P n.0 (four_list targets)) in
      let all = length-append (F n.0 ++ pairs P n.0 (four_list targets)) (slots F P S E past) in
      let four = four-few targets in
      let own = frame n.0 (four_list targets) four in
      let more = times_more a (next_number past) in
      let more' : a * next_number (Send n r i same targets ∷ past) ≡ a + a * next_number past = rw one more in
      omega (arith, ih, new, all, own, more')
    where
      times_more : (a n : ℕ) → a * (1 + n) ≡ a + a * n
      times_more a n = grind arith
  slots-few a c g (Dropped n r i ∷ past) frame fence early =
      let ih = slots-few a c g past frame fence early in
      let one = count-cons is_numbering (Dropped n r i) past in
      let more : a * next_number (Dropped n r i ∷ past) ≡ a + a * next_number past = rw one (grind arith) in
      omega (arith, ih, more)
  slots-few a c g (Release b f ∷ past) frame fence early =
      let ih = slots-few a c g past frame fence early in
      let one = count-cons is_release (Release b f) past in
      let all = length-append (S f.0) (slots F P S E past) in
      let own = fence f.0 in
      let more : c * next_fence (Release b f ∷ past) ≡ c + c * next_fence past = rw one (grind arith) in
      omega (arith, ih, all, own, more)
  slots-few a c g (Early n s b d ∷ past) frame fence early =
      let ih = slots-few a c g past frame fence early in
      let one = count-cons is_early (Early n s b d) past in
      let all = length-append (E d.0) (slots F P S E past) in
      let own = early d.0 in
      let more : g * next_early (Early n s b d ∷ past) ≡ g + g * next_early past = rw one (grind arith) in
      omega (arith, ih, all, own, more)
  slots-few a c g (e ∷ past) frame fence early = slots-few a c g past frame fence early
