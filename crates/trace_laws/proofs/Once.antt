-- A buffer of a frame comes back at most once; in a complete run, once.
use Rattle.std.proofs.Common.{◌≡◌, ℕ, ◌==◌, ◌≤◌, Bool, true, false, ◌&&◌, not, List, [], ◌∷◌, Some, refl, sym, arith, inl, inr, count_by, ◌∙◌}
use Rattle.std.specs.List.{list_all, list_any}
use Rattle.std.proofs.lemmas.Bool.{cases_Bool, false≢true, and_parts}
use Rattle.std.proofs.lemmas.Bool.Decides.{nat_tests}
use Rattle.cam_types.specs.Four.{four_list}
use Rattle.cam_types.specs.declared.script.Script.{Script}
use Rattle.trace_model.specs.declared.entry.Entry.{Entry}
use Rattle.trace_model.specs.declared.entry.Entry.TheVariants.{Send, Filled, Failed, Release, Early}
use Rattle.trace_model.specs.declared.entry.Sent.{Sent}
use Rattle.trace_model.specs.Complete.{IsComplete}
use Rattle.trace_model.specs.Entry.{brings, names, returns_target}
use Rattle.trace_model.specs.Fence.{is_late}
use Rattle.trace_model.specs.Frames.{frames, is_sent, target_of, targets_of}
use Rattle.trace_model.specs.Legal.{IsLegal}
use Rattle.trace_model.specs.Open.{all_settled, early_fences, is_metadata_ended, is_open, is_returned, is_settled}
use Rattle.trace_model.specs.Place.{is_at_device_by, sends_with}
use Rattle.trace_laws.proofs.Returns.{ComesBack, early-back, filled-back, failed-back}
use Rattle.trace_laws.proofs.BufferSends.{frames-sent, holds, is_with, not-the-next, out-before, out-target, send-number}
use Rattle.basic_lemmas.proofs.Lists.{any-behind, all-where, all-where-both, any-where}
use Rattle.basic_lemmas.proofs.Counts.{count-one, count-over, none-counted, some-counted, one-of}
use Rattle.trace_laws.proofs.Told.{return-tells, sent-for}

-- ---- what came back was sent

pub returned-sent : (script : Script) (past : List Entry) (n s : ℕ) → IsLegal script past → is_returned n s past ≡ true → is_sent n past ≡ true
returned-sent script past n s legal h = sent-for script past n (returns_target n s) legal (return-tells n s) h

not_returned_unsent : (script : Script) (past : List Entry) (m n s : ℕ) → IsLegal script past → (m == n) ≡ true → ((k : ℕ) → is_sent k past ≡ true → (m == k) ≡ false) → is_returned n s past ≡ false
not_returned_unsent script past m n s legal own fresh =
    elim (cases_Bool (is_returned n s past)) [
      | inl back ↦ (let wrong = rw own at (fresh n (returned-sent script past n s legal back)) in absurd (false≢true (sym wrong)))
      | inr out ↦ out
    ]

-- ---- while a buffer is at the device by its frame, it didn't come back

-- another buffer that comes back isn't that one
apart_from : (past : List Entry) (m u c n s b : ℕ) → ComesBack past m u c → (c == b) ≡ false → holds b (target_of n s past) ≡ true → ((m == n) && (u == s)) ≡ false
apart_from past m u c n s b back other own =
    elim (cases_Bool ((m == n) && (u == s))) [
      | inl same ↦ (
          let names' = and_parts (m == n) (u == s) same in
          let frame : m ≡ n = grind (arith, nat_tests, names'.0) in
          let stream : u ≡ s = grind (arith, nat_tests, names'.1) in
          let own' : holds b (target_of m u past) ≡ true = rw (frame, stream) own in
          let own'' : holds b (Some back.target) ≡ true = rw back.found at own' in
          let here : (c == b) ≡ true = rw back.buffer at own'' in
          let wrong : false ≡ true = rw other at here in
          absurd (false≢true wrong)
          )
      | inr apart ↦ apart
    ]

-- what isn't a send leaves a buffer at the device only where it doesn't name it
still_out : (e : Entry) (past : List Entry) (n s b : ℕ) → sends_with n s b (Some e) ≡ false → is_at_device_by n s b (e ∷ past) ≡ true → (names b e ≡ false) × (is_at_device_by n s b past ≡ true)
still_out e past n s b send h =
    elim (cases_Bool (names b e)) [
      | inl named ↦ (let wrong = rw named at h in absurd (false≢true (sym send ∙ wrong)))
      | inr other ↦ (other, out-before past e n s b other h)
    ]

pub out-not-returned : (script : Script) (past : List Entry) (n s b : ℕ) → IsLegal script past → is_at_device_by n s b past ≡ true → is_returned n s past ≡ false
out-not-returned script [] n s b legal h = refl
out-not-returned script (Send m r i same targets ∷ past) n s b legal h =
    elim (cases_Bool (names b (Send m r i same targets))) [
      | inl named ↦ (
          let h' = rw named at h in
          let own = (and_parts (m.0 == n) (list_any (is_with s b) (four_list targets)) h').0 in
          not_returned_unsent script past m.0 n s legal.1 own (λ k sent. not-the-next script past m.0 k legal.1 (send-number script past m.0 r.0 i same targets legal.0) sent)
          )
      | inr other ↦ out-not-returned script past n s b legal.1 (out-before past (Send m r i same targets) n s b other h)
    ]
out-not-returned script (Filled m u c f d ∷ past) n s b legal h =
    let out = still_out (Filled m u c f d) past n s b refl h in
    let apart = apart_from past m.0 u.0 c.0 n s b (filled-back script past m u c f d legal.0) out.0 (out-target script past n s b legal.1 out.1) in
    rw (apart, out-not-returned script past n s b legal.1 out.1) refl
out-not-returned script (Failed m u c f ∷ past) n s b legal h =
    let out = still_out (Failed m u c f) past n s b refl h in
    let apart = apart_from past m.0 u.0 c.0 n s b (failed-back past m u c f legal.0) out.0 (out-target script past n s b legal.1 out.1) in
    rw (apart, out-not-returned script past n s b legal.1 out.1) refl
out-not-returned script (Early m u c d ∷ past) n s b legal h =
    let out = still_out (Early m u c d) past n s b refl h in
    let apart = apart_from past m.0 u.0 c.0 n s b (early-back script past m u c d legal.0) out.0 (out-target script past n s b legal.1 out.1) in
    rw (apart, out-not-returned script past n s b legal.1 out.1) refl
out-not-returned script (Release c f ∷ past) n s b legal h = out-not-returned script past n s b legal.1 (still_out (Release c f) past n s b refl h).1
out-not-returned script (e ∷ past) n s b legal h = out-not-returned script past n s b legal.1 h

-- ---- at most once

not_before : (script : Script) (past : List Entry) (m u c n s : ℕ) → IsLegal script past → ComesBack past m u c → ((m == n) && (u == s)) ≡ true → is_returned n s past ≡ false
not_before script past m u c n s legal back same =
    let names' = and_parts (m == n) (u == s) same in
    let frame : m ≡ n = grind (arith, nat_tests, names'.0) in
    let stream : u ≡ s = grind (arith, nat_tests, names'.1) in
    let none' = out-not-returned script past m u c legal back.out in
    rw (frame, stream) at none'

once_more : (p : Entry → Bool) (e : Entry) (past : List Entry) → (p e ≡ true → list_any p past ≡ false) → count_by p past ≤ 1 → count_by p (e ∷ past) ≤ 1
once_more p e past first before =
    elim (cases_Bool (p e)) [
      | inl own ↦ (
          let none' = none-counted p past (first own) in
          let one = count-one p e past own in
          omega (arith, none', one)
          )
      | inr other ↦ (let over = count-over p e past other in omega (arith, over, before))
    ]

pub returned-at-most-once : (script : Script) (past : List Entry) (n s : ℕ) → IsLegal script past → count_by (returns_target n s) past ≤ 1
returned-at-most-once script [] n s legal = omega arith
returned-at-most-once script (Filled m u c f d ∷ past) n s legal =
    once_more (returns_target n s) (Filled m u c f d) past (λ own. not_before script past m.0 u.0 c.0 n s legal.1 (filled-back script past m u c f d legal.0) own) (returned-at-most-once script past n s legal.1)
returned-at-most-once script (Failed m u c f ∷ past) n s legal =
    once_more (returns_target n s) (Failed m u c f) past (λ own. not_before script past m.0 u.0 c.0 n s legal.1 (failed-back past m u c f legal.0) own) (returned-at-most-once script past n s legal.1)
returned-at-most-once script (Early m u c d ∷ past) n s legal =
    once_more (returns_target n s) (Early m u c d) past (λ own. not_before script past m.0 u.0 c.0 n s legal.1 (early-back script past m u c d legal.0) own) (returned-at-most-once script past n s legal.1)
returned-at-most-once script (e ∷ past) n s legal = returned-at-most-once script past n s legal.1

-- ---- once

brings_returns : (n s : ℕ) (e : Entry) → brings n s e ≡ true → returns_target n s e ≡ true
brings_returns n s (Filled m t b f d) h = h
brings_returns n s (Failed m t b f) h = h
brings_returns n s e h = absurd (false≢true h)

-- what came back early came back
pub early-returned : (n s : ℕ) (past : List Entry) (p : ℕ → Bool) → list_any p (early_fences n s past) ≡ true → is_returned n s past ≡ true
early-returned n s [] p h = absurd (false≢true h)
early-returned n s (Early m t b d ∷ past) p h =
    elim (cases_Bool ((m.0 == n) && (t.0 == s))) [
      | inl own ↦ rw own refl
      | inr other ↦ (let h' = rw other at h in rw other (early-returned n s past p h'))
    ]
early-returned n s (e ∷ past) p h = any-behind (returns_target n s) e past (early-returned n s past p h)

-- what the device is done with came back
pub settled-returned : (n s : ℕ) (past : List Entry) → is_settled n s past ≡ true → is_returned n s past ≡ true
settled-returned n s past h =
    elim (cases_Bool (list_any (brings n s) past)) [
      | inl back ↦ any-where (brings n s) (returns_target n s) past (brings_returns n s) back
      | inr no' ↦ (let h' = rw no' at h in early-returned n s past (λ d. is_late d past) h')
    ]

-- of each frame that was sent and isn't open all came back
when_closed : (sent ended back : Bool) → sent ≡ true → not (sent && not (ended && back)) ≡ true → back ≡ true
when_closed true true true h k = refl
when_closed true true false h k = absurd (false≢true k)
when_closed true false back h k = absurd (false≢true k)
when_closed false ended back h k = absurd (false≢true h)

-- each buffer of the frame came back once
abbrev pub is_returned_once : List Entry → ℕ → Bool
is_returned_once past n = list_all (λ t. count_by (returns_target n t.stream.0) past == 1) (targets_of n past)

frame_returned : (script : Script) (past : List Entry) (n : ℕ) → IsLegal script past → is_sent n past ≡ true → not (is_open n past) ≡ true → is_returned_once past n ≡ true
frame_returned script past n legal sent closed =
    let all : all_settled n past ≡ true = when_closed (is_sent n past) (is_metadata_ended n past) (all_settled n past) sent closed in
    all-where {X = Sent} (λ t. is_settled n t.stream.0 past) (λ t. count_by (returns_target n t.stream.0) past == 1) (targets_of n past)
    (λ t done. one-of (count_by (returns_target n t.stream.0) past) (some-counted (returns_target n t.stream.0) past (settled-returned n t.stream.0 past done)) (returned-at-most-once script past n t.stream.0 legal)) all

pub buffers_ended_once : (script : Script) (past : List Entry) → IsComplete script past → list_all (is_returned_once past) (frames past) ≡ true
buffers_ended_once script past complete =
    all-where-both (λ n. is_sent n past) (λ n. not (is_open n past)) (is_returned_once past) (frames past) (λ n sent closed. frame_returned script past n complete.legal sent closed) (frames-sent past) complete.open_frames
