-- Conservation of buffers: a buffer is sent once more than it is returned while it is at the device.
use Rattle.std.proofs.Common.{◌≡◌, ℕ, ◌==◌, ◌+◌, Bool, true, false, ◌&&◌, List, [], ◌∷◌, Some, refl, sym, ◌∙◌, arith, inl, inr, count_by, if◌then◌else◌}
use Rattle.std.proofs.lemmas.Bool.{cases_Bool, false≢true}
use Rattle.std.proofs.lemmas.Bool.Decides.{nat_tests}
use Rattle.cam_types.specs.declared.script.Script.{Script}
use Rattle.trace_model.specs.declared.entry.Entry.{Entry}
use Rattle.trace_model.specs.declared.entry.Entry.TheVariants.{Send, Filled, Failed, Release, Early}
use Rattle.trace_model.specs.Configuration.{is_buffer}
use Rattle.trace_model.specs.Entry.{names}
use Rattle.trace_model.specs.Laws.{ConservesBuffers, returns_buffer, sends_buffer}
use Rattle.trace_model.specs.Legal.{IsLegal}
use Rattle.trace_model.specs.Place.{Place, Device, is_at, is_at_device_by, place, place_after}
use Rattle.trace_model.proofs.LawLemmas.{at-device, until-returned}
use Rattle.trace_laws.proofs.Own.{at-device-by-some, device-buffer}
use Rattle.trace_laws.proofs.Returns.{early-back, filled-back, failed-back}
use Rattle.basic_lemmas.proofs.Counts.{count-over, count-cons}

-- 1 at the device, else 0
abbrev pub out_by : Place → ℕ
out_by p = if is_at p Device then 1 else 0

-- as the law, for a buffer at the device whether or not it is known to be the configuration's
abbrev pub IsConserved : List Entry → ℕ → Type 0
IsConserved past b = count_by (sends_buffer b) past ≡ count_by (returns_buffer b) past + out_by (place b past)

-- ---- one more entry

pub place_named : (b : ℕ) (e : Entry) (past : List Entry) → names b e ≡ true → place b (e ∷ past) ≡ place_after (Some e)
place_named b e past h = rw h refl

pub place_other : (b : ℕ) (e : Entry) (past : List Entry) → names b e ≡ false → place b (e ∷ past) ≡ place b past
place_other b e past h = rw h refl

-- an entry that doesn't name the buffer
passed_over : (b : ℕ) (e : Entry) (past : List Entry) → names b e ≡ false → sends_buffer b e ≡ false → returns_buffer b e ≡ false → IsConserved past b → IsConserved (e ∷ past) b
passed_over b e past other send return before =
    let stays = place_other b e past other in
    let sent = count-over (sends_buffer b) e past send in
    let returned = count-over (returns_buffer b) e past return in
    rw stays (omega (arith, sent, returned, before))

-- how often the entry counts, which is once or not at all
abbrev pub by_test : Bool → ℕ
by_test b = if b then 1 else 0

counted : (b k j l m : ℕ) (e : Entry) (past : List Entry) → by_test (sends_buffer b e) ≡ k → by_test (returns_buffer b e) ≡ j → out_by (place b past) ≡ l → out_by (place b (e ∷ past)) ≡ m → k + l ≡ j + m → IsConserved past b → IsConserved (e ∷ past) b
counted b k j l m e past send return out out' even before =
    let sent = count-cons (sends_buffer b) e past in
    let returned = count-cons (returns_buffer b) e past in
    omega (arith, sent, returned, send, return, out, out', even, before)

-- ---- where a buffer was

not_at_device : (script : Script) (past : List Entry) (e : Entry) (b : ℕ) → IsLegal script (e ∷ past) → names b e ≡ true → returns_buffer b e ≡ false → out_by (place b past) ≡ 0
not_at_device script past e b legal named kept =
    elim (cases_Bool (is_at (place b past) Device)) [
      | inl out ↦ (
          let by = at-device-by-some past b out in
          let returns' = until-returned script past e by.0 by.1 b by.2 legal.0 named in
          absurd (false≢true (sym kept ∙ returns'))
          )
      | inr home ↦ rw home refl
    ]

was_out : (past : List Entry) (n s c b : ℕ) → (c == b) ≡ true → is_at_device_by n s c past ≡ true → out_by (place b past) ≡ 1
was_out past n s c b same out =
    let device : place c past ≡ Device = at-device n s c past out in
    let same' : c ≡ b = grind (arith, nat_tests) in
    let device' : place b past ≡ Device = rw same' at device in
    rw device' refl

-- ---- every legal past

conserved : (script : Script) (past : List Entry) (b : ℕ) → IsLegal script past → IsConserved past b
conserved script [] b legal = refl
conserved script (Send n r i same targets ∷ past) b legal =
    let ih = conserved script past b legal.1 in
    elim (cases_Bool (names b (Send n r i same targets))) [
      | inl named ↦ (
          let before = not_at_device script past (Send n r i same targets) b legal named refl in
          let send : by_test (sends_buffer b (Send n r i same targets)) ≡ 1 = rw named refl in
          let after : out_by (place b (Send n r i same targets ∷ past)) ≡ 1 = rw (place_named b (Send n r i same targets) past named) refl in
          counted b 1 0 0 1 (Send n r i same targets) past send refl before after refl ih
          )
      | inr other ↦ passed_over b (Send n r i same targets) past other other refl ih
    ]
conserved script (Filled n s c f d ∷ past) b legal =
    let ih = conserved script past b legal.1 in
    elim (cases_Bool (c.0 == b)) [
      | inl named ↦ (
          let back = filled-back script past n s c f d legal.0 in
          let before = was_out past n.0 s.0 c.0 b named back.out in
          let return : by_test (returns_buffer b (Filled n s c f d)) ≡ 1 = rw named refl in
          let after : out_by (place b (Filled n s c f d ∷ past)) ≡ 0 = rw (place_named b (Filled n s c f d) past named) refl in
          counted b 0 1 1 0 (Filled n s c f d) past refl return before after refl ih
          )
      | inr other ↦ passed_over b (Filled n s c f d) past other refl other ih
    ]
conserved script (Failed n s c f ∷ past) b legal =
    let ih = conserved script past b legal.1 in
    elim (cases_Bool (c.0 == b)) [
      | inl named ↦ (
          let back = failed-back past n s c f legal.0 in
          let before = was_out past n.0 s.0 c.0 b named back.out in
          let return : by_test (returns_buffer b (Failed n s c f)) ≡ 1 = rw named refl in
          let after : out_by (place b (Failed n s c f ∷ past)) ≡ 0 = rw (place_named b (Failed n s c f) past named) refl in
          counted b 0 1 1 0 (Failed n s c f) past refl return before after refl ih
          )
      | inr other ↦ passed_over b (Failed n s c f) past other refl other ih
    ]
conserved script (Early n s c d ∷ past) b legal =
    let ih = conserved script past b legal.1 in
    elim (cases_Bool (c.0 == b)) [
      | inl named ↦ (
          let back = early-back script past n s c d legal.0 in
          let before = was_out past n.0 s.0 c.0 b named back.out in
          let return : by_test (returns_buffer b (Early n s c d)) ≡ 1 = rw named refl in
          let after : out_by (place b (Early n s c d ∷ past)) ≡ 0 = rw (place_named b (Early n s c d) past named) refl in
          counted b 0 1 1 0 (Early n s c d) past refl return before after refl ih
          )
      | inr other ↦ passed_over b (Early n s c d) past other refl other ih
    ]
conserved script (Release c f ∷ past) b legal =
    let ih = conserved script past b legal.1 in
    elim (cases_Bool (c.0 == b)) [
      | inl named ↦ (
          let before = not_at_device script past (Release c f) b legal named refl in
          let after : out_by (place b (Release c f ∷ past)) ≡ 0 = rw (place_named b (Release c f) past named) refl in
          counted b 0 0 0 0 (Release c f) past refl refl before after refl ih
          )
      | inr other ↦ passed_over b (Release c f) past other refl refl ih
    ]
conserved script (e ∷ past) b legal = passed_over b e past refl refl refl (conserved script past b legal.1)

pub buffers_conserved : (script : Script) (past : List Entry) → IsLegal script past → ConservesBuffers past
buffers_conserved script past legal b =
    let all = conserved script past b legal in
    elim (cases_Bool (is_at (place b past) Device)) [
      | inl out ↦ (
          let own = device-buffer script past b legal out in
          let all' : count_by (sends_buffer b) past ≡ count_by (returns_buffer b) past + 1 = rw out at all in
          rw (own, out) all'
          )
      | inr home ↦ (
          let all' : count_by (sends_buffer b) past ≡ count_by (returns_buffer b) past + 0 = rw home at all in
          no_more (is_buffer past b) (is_at (place b past) Device) (count_by (sends_buffer b) past) (count_by (returns_buffer b) past) home all'
          )
    ]
  where
    no_more : (own out : Bool) (k j : ℕ) → out ≡ false → k ≡ j + 0 → k ≡ j + (if own && out then 1 else 0)
    no_more true out k j home h = rw home h
    no_more false out k j home h = h
