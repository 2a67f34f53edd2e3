-- Filled buffers of one stream come in the order of frames: a frame that was passed over lets later ones pass for good.
use Rattle.std.proofs.Common.{◌≡◌, ℕ, ◌==◌, Bool, true, false, ◌&&◌, ◌||◌, not, List, [], ◌∷◌, refl, sym, ◌∙◌, arith, inl, inr, nat_lt}
use Rattle.std.specs.List.{list_all, list_any}
use Rattle.std.proofs.lemmas.Bool.{cases_Bool, false≢true, and_parts}
use Rattle.std.proofs.lemmas.Bool.Decides.{nat_tests}
use Rattle.cam_types.specs.declared.reply.Reply.TheVariants.{Configured}
use Rattle.cam_types.specs.declared.script.Script.{Script}
use Rattle.trace_model.specs.declared.entry.Entry.{Entry}
use Rattle.trace_model.specs.declared.entry.Entry.TheVariants.{Call, Send, Filled, Early}
use Rattle.trace_model.specs.Entry.{is_error_buffer, is_error_request, returns_target}
use Rattle.trace_model.specs.Faults.{buffer_fault, request_fault}
use Rattle.trace_model.specs.Filled.{lets_pass}
use Rattle.trace_model.specs.Frames.{each_earlier, frames, has_error_request, has_target, is_sent, targets_of}
use Rattle.trace_model.specs.Laws.{delivers_below, delivers_in_order}
use Rattle.trace_model.specs.Legal.{IsLegal}
use Rattle.trace_model.specs.Numbers.{next_number}
use Rattle.trace_model.specs.Open.{has_error_buffer, is_returned}
use Rattle.trace_laws.proofs.Once.{out-not-returned, returned-sent}
use Rattle.trace_laws.proofs.Returns.{ComesBack, ComesFilled, early-back, early-well, filled-back, filled-well}
use Rattle.trace_laws.proofs.BufferSends.{out-sent, send-number, sent-below}
use Rattle.basic_lemmas.proofs.Lists.{any-behind, any-where, found-any}

-- ---- filled buffers

-- the entry gives back the buffer of frame m for stream s, filled or early
abbrev pub fills : ℕ → ℕ → Entry → Bool
fills m s (Filled k t _ _ _) = (k.0 == m) && (t.0 == s)
fills m s (Early k t _ _) = (k.0 == m) && (t.0 == s)
fills m s _ = false

abbrev pub was_filled : ℕ → ℕ → List Entry → Bool
was_filled m s past = list_any (fills m s) past

fills_and_returns : (m s : ℕ) (e : Entry) → fills m s e ≡ true → returns_target m s e ≡ true
fills_and_returns m s (Filled k t b f d) h = h
fills_and_returns m s (Early k t b d) h = h
fills_and_returns m s e h = absurd (false≢true h)

filled_returned : (m s : ℕ) (past : List Entry) → was_filled m s past ≡ true → is_returned m s past ≡ true
filled_returned m s past h = any-where (fills m s) (returns_target m s) past (fills_and_returns m s) h

-- ---- what lets pass does so for good

passes_more : (t r b q r' b' q' : Bool) → (r ≡ true → r' ≡ true) → (b ≡ true → b' ≡ true) → (q ≡ true → q' ≡ true) → (not t || (r || (b || q))) ≡ true → (not t || (r' || (b' || q'))) ≡ true
passes_more false r b q r' b' q' one two three h = refl
passes_more true true b q r' b' q' one two three h = rw (one refl) refl
passes_more true false true q true b' q' one two three h = refl
passes_more true false true q false b' q' one two three h = rw (two refl) refl
passes_more true false false true true b' q' one two three h = refl
passes_more true false false true false true q' one two three h = refl
passes_more true false false true false false q' one two three h = three refl
passes_more true false false false r' b' q' one two three h = absurd (false≢true h)

keeps_passing : (e : Entry) (past : List Entry) (s n : ℕ) → has_target n s (e ∷ past) ≡ has_target n s past → lets_pass past s n ≡ true → lets_pass (e ∷ past) s n ≡ true
keeps_passing e past s n same h =
    rw same (passes_more (has_target n s past) (is_returned n s past) (has_error_buffer n s past) (has_error_request n past) (is_returned n s (e ∷ past)) (has_error_buffer n s (e ∷ past)) (has_error_request n (e ∷ past))
    (any-behind (returns_target n s) e past) (any-behind (is_error_buffer n s) e past) (any-behind (is_error_request n) e past) h)

-- what holds of each earlier frame holds of one that was sent
earlier_one : (k n : ℕ) (p : ℕ → Bool) (past : List Entry) → each_earlier k p past ≡ true → is_sent n past ≡ true → nat_lt n k ≡ true → p n ≡ true
earlier_one k n p [] each sent less = absurd (false≢true sent)
earlier_one k n p (Send m r i same targets ∷ past) each sent less =
    let parts = and_parts (not (nat_lt m.0 k) || p m.0) (list_all (λ j. not (nat_lt j k) || p j) (frames past)) each in
    elim (cases_Bool (m.0 == n)) [
      | inl here ↦ (
          let number : m.0 ≡ n = grind (arith, nat_tests) in
          let own : (not (nat_lt n k) || p n) ≡ true = rw number at parts.0 in
          rw less at own
          )
      | inr no' ↦ (let sent' = rw no' at sent in earlier_one k n p past parts.1 sent' less)
    ]
earlier_one k n p (e ∷ past) each sent less = earlier_one k n p past each sent less

-- ---- the frames before one whose buffer was filled let later ones pass

no_later : (n m k : ℕ) → n ≡ k → nat_lt m k ≡ true → nat_lt n m ≡ true → ⊥
no_later n m k number low less = grind (arith, nat_tests, number, low, less)

filled_by : (script : Script) (past : List Entry) (k u m s n : ℕ) → ComesFilled script past k u → ((k == m) && (u == s)) ≡ true → is_sent n past ≡ true → nat_lt n m ≡ true → lets_pass past s n ≡ true
filled_by script past k u m s n well own sent less =
    let names' = and_parts (k == m) (u == s) own in
    let frame : k ≡ m = grind (arith, nat_tests, names'.0) in
    let stream : u ≡ s = grind (arith, nat_tests, names'.1) in
    let less' : nat_lt n k ≡ true = rw frame less in
    let passes : lets_pass past u n ≡ true = earlier_one k n (lets_pass past u) past well.earlier sent less' in
    rw stream at passes

pub passes-before : (script : Script) (past : List Entry) (m s n : ℕ) → IsLegal script past → was_filled m s past ≡ true → is_sent n past ≡ true → nat_lt n m ≡ true → lets_pass past s n ≡ true
passes-before script [] m s n legal filled sent less = absurd (false≢true filled)
passes-before script (Send k r i same targets ∷ past) m s n legal filled sent less =
    let number = send-number script past k.0 r.0 i same targets legal.0 in
    elim (cases_Bool (k.0 == n)) [
      | inl here ↦ (
          let low = sent-below script past m legal.1 (returned-sent script past m s legal.1 (filled_returned m s past filled)) in
          let same' : k.0 ≡ n = grind (arith, nat_tests, here) in
          absurd (no_later n m (next_number past) (sym same' ∙ number) low less)
          )
      | inr no' ↦ (
          let sent' = rw no' at sent in
          let before = passes-before script past m s n legal.1 filled sent' less in
          keeps_passing (Send k r i same targets) past s n (rw no' refl) before
          )
    ]
passes-before script (Filled k u c f d ∷ past) m s n legal filled sent less =
    elim (cases_Bool (fills m s (Filled k u c f d))) [
      | inl own ↦ keeps_passing (Filled k u c f d) past s n refl (filled_by script past k.0 u.0 m s n (filled-well script past k u c f d legal.0) own sent less)
      | inr other ↦ (let filled' = rw other at filled in keeps_passing (Filled k u c f d) past s n refl (passes-before script past m s n legal.1 filled' sent less))
    ]
passes-before script (Early k u c d ∷ past) m s n legal filled sent less =
    elim (cases_Bool (fills m s (Early k u c d))) [
      | inl own ↦ keeps_passing (Early k u c d) past s n refl (filled_by script past k.0 u.0 m s n (early-well script past k u c d legal.0) own sent less)
      | inr other ↦ (let filled' = rw other at filled in keeps_passing (Early k u c d) past s n refl (passes-before script past m s n legal.1 filled' sent less))
    ]
passes-before script (e ∷ past) m s n legal filled sent less = keeps_passing e past s n refl (passes-before script past m s n legal.1 filled sent less)

-- ---- in order

-- a frame with a buffer at the device, and no error, holds later ones back
holds_back : (script : Script) (past : List Entry) (n s b : ℕ) → IsLegal script past → ComesBack past n s b → ComesFilled script past n s → lets_pass past s n ≡ false
holds_back script past n s b legal back well =
    let has : has_target n s past ≡ true = found-any (λ t. t.stream.0 == s) (targets_of n past) back.target back.found in
    let out = out-not-returned script past n s b legal back.out in
    let faults = not (request_fault script n) && not (buffer_fault script n s) in
    let errors = not (has_error_request n past) && not (has_error_buffer n s past) in
    let sound = and_parts (not (has_error_request n past)) (not (has_error_buffer n s past)) (and_parts faults errors well.sound).1 in
    rw (has, out) (no_error (has_error_buffer n s past) (has_error_request n past) sound.1 sound.0)
  where
    no_error : (b q : Bool) → not b ≡ true → not q ≡ true → (b || q) ≡ false
    no_error true q one two = absurd (false≢true one)
    no_error false true one two = absurd (false≢true two)
    no_error false false one two = refl

-- a buffer that is filled is of a later frame than those of its stream that were
later_than_filled : (script : Script) (past : List Entry) (n s b m : ℕ) → IsLegal script past → ComesBack past n s b → ComesFilled script past n s → was_filled m s past ≡ true → nat_lt m n ≡ true
later_than_filled script past n s b m legal back well filled =
    elim (cases_Bool (nat_lt m n)) [
      | inl less ↦ less
      | inr no' ↦ elim (cases_Bool (m == n)) [
        | inl same ↦ (
            let frame : m ≡ n = grind (arith, nat_tests, same) in
            let returned : is_returned n s past ≡ true = rw frame at (filled_returned m s past filled) in
            let out = out-not-returned script past n s b legal back.out in
            absurd (false≢true (sym out ∙ returned))
            )
        | inr apart ↦ (
            let greater : nat_lt n m ≡ true = is_greater m n no' apart in
            let passes = passes-before script past m s n legal filled (out-sent past n s b back.out) greater in
            absurd (false≢true (sym (holds_back script past n s b legal back well) ∙ passes))
            )
      ]
    ]
  where
    is_greater : (m n : ℕ) → nat_lt m n ≡ false → (m == n) ≡ false → nat_lt n m ≡ true
    is_greater m n no' apart = grind (arith, nat_tests, no', apart)

below : (n s : ℕ) (past : List Entry) → ((m : ℕ) → was_filled m s past ≡ true → nat_lt m n ≡ true) → delivers_below n s past ≡ true
below n s [] each = refl
below n s (Filled m t b f d ∷ past) each =
    let ih = below n s past (λ k h. each k (any-behind (fills k s) (Filled m t b f d) past h)) in
    elim (cases_Bool (t.0 == s)) [
      | inl own ↦ (
          let number : (m.0 == m.0) ≡ true = grind (arith, nat_tests) in
          let filled : was_filled m.0 s (Filled m t b f d ∷ past) ≡ true = rw (number, own) refl in
          rw (own, each m.0 filled, ih) refl
          )
      | inr other ↦ rw (other, ih) refl
    ]
below n s (Early m t b d ∷ past) each =
    let ih = below n s past (λ k h. each k (any-behind (fills k s) (Early m t b d) past h)) in
    elim (cases_Bool (t.0 == s)) [
      | inl own ↦ (
          let number : (m.0 == m.0) ≡ true = grind (arith, nat_tests) in
          let filled : was_filled m.0 s (Early m t b d ∷ past) ≡ true = rw (number, own) refl in
          rw (own, each m.0 filled, ih) refl
          )
      | inr other ↦ rw (other, ih) refl
    ]
below n s (Call i w (Configured each') ∷ past) each = refl
below n s (e ∷ past) each = below n s past each

pub delivered_in_order : (script : Script) (past : List Entry) → IsLegal script past → delivers_in_order past ≡ true
delivered_in_order script [] legal = refl
delivered_in_order script (Filled n s b f d ∷ past) legal =
    let back = filled-back script past n s b f d legal.0 in
    let well = filled-well script past n s b f d legal.0 in
    let first = below n.0 s.0 past (λ m filled. later_than_filled script past n.0 s.0 b.0 m legal.1 back well filled) in
    rw (first, delivered_in_order script past legal.1) refl
delivered_in_order script (Early n s b d ∷ past) legal =
    let back = early-back script past n s b d legal.0 in
    let well = early-well script past n s b d legal.0 in
    let first = below n.0 s.0 past (λ m filled. later_than_filled script past n.0 s.0 b.0 m legal.1 back well filled) in
    rw (first, delivered_in_order script past legal.1) refl
delivered_in_order script (e ∷ past) legal = delivered_in_order script past legal.1
