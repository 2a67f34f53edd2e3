-- A target of a sent frame is at the device until it comes back.
use Rattle.std.proofs.Common.{◌≡◌, ℕ, ◌==◌, Bool, true, false, ◌&&◌, not, List, [], ◌∷◌, Option, Some, refl, sym, ◌∙◌, inl, inr, find}
use Rattle.std.specs.List.{list_any}
use Rattle.std.proofs.lemmas.Bool.{and_from, and_parts, both_ways, cases_Bool, eq-eqb, eqb-true, false≢true, or_parts}
use Rattle.cam_types.specs.Four.{four_list}
use Rattle.cam_types.specs.declared.script.Script.{Script}
use Rattle.trace_model.specs.declared.entry.Entry.{Entry}
use Rattle.trace_model.specs.declared.entry.Entry.TheVariants.{Send, Filled, Failed, Early}
use Rattle.trace_model.specs.declared.entry.Sent.{Sent}
use Rattle.trace_model.specs.Entry.{names, returns_target}
use Rattle.trace_model.specs.Frames.{target_of}
use Rattle.trace_model.specs.Laws.{returns_buffer}
use Rattle.trace_model.specs.Legal.{IsLegal}
use Rattle.trace_model.specs.Open.{is_returned}
use Rattle.trace_model.specs.Place.{is_at_device_by, last_naming, sends_with}
use Rattle.trace_model.proofs.LawLemmas.{until-returned}
use Rattle.trace_laws.proofs.StreamLemmas.{at-device-own}
use Rattle.trace_laws.proofs.Once.{out-not-returned}
use Rattle.trace_laws.proofs.Returns.{early-back, failed-back, filled-back}
use Rattle.trace_laws.proofs.Streams.{one-stream}
use Rattle.basic_lemmas.proofs.Lists.{any-where}

-- a buffer is at the device by one frame
one_sender : (n m s u b : ℕ) (o : Option Entry) → sends_with n s b o ≡ true → sends_with m u b o ≡ true → n ≡ m
one_sender n m s u b (Some (Send k r i same targets)) h h' =
    let a = (and_parts (k.0 == n) (list_any (λ t. (t.stream.0 == s) && (t.buffer.0 == b)) (four_list targets)) h).0 in
    let c = (and_parts (k.0 == m) (list_any (λ t. (t.stream.0 == u) && (t.buffer.0 == b)) (four_list targets)) h').0 in
    sym (eqb-true k.0 n a) ∙ eqb-true k.0 m c
one_sender n m s u b _ h h' = absurd (false≢true h)

-- and for one stream
pub one-holder : (script : Script) (past : List Entry) (n m s u b : ℕ) → IsLegal script past → is_at_device_by n s b past ≡ true → is_at_device_by m u b past ≡ true → (n ≡ m) × (s ≡ u)
one-holder script past n m s u b legal h h' = (
  one_sender n m s u b (last_naming b past) h h',
  one-stream script past s u b legal (at-device-own script past n s b legal h) (at-device-own script past m u b legal h'),
)

same_return : (m n u s : ℕ) → (n ≡ m) × (s ≡ u) → ((m == n) && (u == s)) ≡ true
same_return m n u s same = rw (eq-eqb m n (sym same.0), eq-eqb u s (sym same.1)) refl

back_own : (script : Script) (past : List Entry) (e : Entry) (n s b : ℕ) → IsLegal script (e ∷ past) → is_at_device_by n s b past ≡ true → returns_buffer b e ≡ true → returns_target n s e ≡ true
back_own script past (Filled m u c f d) n s b legal out h =
    let by : is_at_device_by m.0 u.0 b past ≡ true = rw (eqb-true c.0 b h) at (filled-back script past m u c f d legal.0).out in
    same_return m.0 n u.0 s (one-holder script past n m.0 s u.0 b legal.1 out by)
back_own script past (Failed m u c f) n s b legal out h =
    let by : is_at_device_by m.0 u.0 b past ≡ true = rw (eqb-true c.0 b h) at (failed-back past m u c f legal.0).out in
    same_return m.0 n u.0 s (one-holder script past n m.0 s u.0 b legal.1 out by)
back_own script past (Early m u c d) n s b legal out h =
    let by : is_at_device_by m.0 u.0 b past ≡ true = rw (eqb-true c.0 b h) at (early-back script past m u c d legal.0).out in
    same_return m.0 n u.0 s (one-holder script past n m.0 s u.0 b legal.1 out by)
back_own script past _ n s b legal out h = absurd (false≢true h)

still_out : (script : Script) (past : List Entry) (e : Entry) (n s b : ℕ) → IsLegal script (e ∷ past) → is_at_device_by n s b past ≡ true → returns_target n s e ≡ false → is_at_device_by n s b (e ∷ past) ≡ true
still_out script past e n s b legal out not' =
    elim (cases_Bool (names b e)) [
      | inl named ↦ absurd (both_ways (returns_target n s e) not' (back_own script past e n s b legal out (until-returned script past e n s b out legal.0 named)))
      | inr other ↦ rw other out
    ]

found_both : (p q : Sent → Bool) (xs : List Sent) (t : Sent) → find p xs ≡ Some t → q t ≡ true → list_any (λ x. p x && q x) xs ≡ true
found_both p q [] t h k = absurd (cc)
found_both p q (x ∷ xs) t h k =
    elim (cases_Bool (p x)) [
      | inl here ↦ (let h' = rw here at h in let same : x ≡ t = cc in rw (here, same, k) refl)
      | inr other ↦ (let h' = rw other at h in rw other (found_both p q xs t h' k))
    ]

now_out : (n s : ℕ) (past : List Entry) (e : Entry) (t : Sent) → names t.buffer.0 e ≡ true → sends_with n s t.buffer.0 (Some e) ≡ true → is_at_device_by n s t.buffer.0 (e ∷ past) ≡ true
now_out n s past e t named by = rw named by

pub not-returned-out : (script : Script) (past : List Entry) (n s : ℕ) (t : Sent) → IsLegal script past → target_of n s past ≡ Some t → is_returned n s past ≡ false → is_at_device_by n s t.buffer.0 past ≡ true
not-returned-out script [] n s t legal at out = absurd (cc)
not-returned-out script (Send m r i same targets ∷ past) n s t legal at out =
    elim (cases_Bool (m.0 == n)) [
      | inl here ↦ (
          let at' = rw here at at in
          let both = found_both (λ x. x.stream.0 == s) (λ x. x.buffer.0 == t.buffer.0) (four_list targets) t at' (eq-eqb t.buffer.0 t.buffer.0 refl) in
          let named = any-where (λ x. (x.stream.0 == s) && (x.buffer.0 == t.buffer.0)) (λ x. x.buffer.0 == t.buffer.0) (four_list targets) (λ x h. (and_parts (x.stream.0 == s) (x.buffer.0 == t.buffer.0) h).1) both in
          now_out n s past (Send m r i same targets) t named (and_from (m.0 == n) (list_any (λ x. (x.stream.0 == s) && (x.buffer.0 == t.buffer.0)) (four_list targets)) here both)
          )
      | inr other ↦ (
          let at' = rw other at at in
          still_out script past (Send m r i same targets) n s t.buffer.0 legal (not-returned-out script past n s t legal.1 at' out) refl
          )
    ]
not-returned-out script (e ∷ past) n s t legal at out =
    let parts = or_parts (returns_target n s e) (is_returned n s past) out in
    still_out script past e n s t.buffer.0 legal (not-returned-out script past n s t legal.1 at parts.1) parts.0

-- a target is at the device by its frame where it didn't come back
pub out-reads : (script : Script) (past : List Entry) (n s : ℕ) (t : Sent) → IsLegal script past → target_of n s past ≡ Some t → is_at_device_by n s t.buffer.0 past ≡ not (is_returned n s past)
out-reads script past n s t legal at =
    elim (cases_Bool (is_returned n s past)) [
      | inl back ↦ elim (cases_Bool (is_at_device_by n s t.buffer.0 past)) [
        | inl out ↦ absurd (both_ways (is_returned n s past) (out-not-returned script past n s t.buffer.0 legal out) back)
        | inr gone ↦ rw (back, gone) refl
      ]
      | inr out ↦ rw (out, not-returned-out script past n s t legal at out) refl
    ]
