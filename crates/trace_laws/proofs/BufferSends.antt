-- What it says of a frame that it was sent: its number, its streams, and the buffers of it that are still at the device.
use Rattle.std.proofs.Common.{◌≡◌, ℕ, ◌==◌, ◌+◌, Bool, true, false, ◌&&◌, not, List, [], ◌∷◌, Option, Some, None, refl, sym, arith, inl, inr, nat_lt, filter, find, take}
use Rattle.std.specs.List.{list_all, list_any}
use Rattle.std.proofs.lemmas.Bool.{cases_Bool, false≢true, and_parts}
use Rattle.std.proofs.lemmas.Bool.Decides.{nat_tests}
use Rattle.cam_types.specs.Four.{four_list}
use Rattle.cam_types.specs.declared.four.Four.{Four}
use Rattle.cam_types.specs.declared.script.Script.{Script}
use Rattle.trace_model.specs.declared.entry.Entry.{Entry}
use Rattle.trace_model.specs.declared.entry.Entry.TheVariants.{Send, Dropped, Filled, Failed, Release, Early}
use Rattle.trace_model.specs.declared.entry.Sent.{Sent}
use Rattle.trace_model.specs.Entry.{is_numbering, names, sends}
use Rattle.trace_model.specs.Frames.{frames, is_sent, target_of}
use Rattle.trace_model.specs.Legal.{IsLegal}
use Rattle.trace_model.specs.Numbers.{next_number}
use Rattle.trace_model.specs.Place.{is_at_device_by, sends_with}
use Rattle.trace_model.specs.Queue.{next}
use Rattle.cam_types.specs.declared.request.Queued.{Queued}
use Rattle.trace_model.specs.Send.{are_streams, fits_next, may_send, targets_in_order}
use Rattle.trace_model.proofs.LawLemmas.{goes}
use Rattle.basic_lemmas.proofs.Lists.{any-behind, all-where}
use Rattle.basic_lemmas.proofs.Counts.{count-one}
use Rattle.basic_lemmas.proofs.Tests.{lt-more, not-true}

-- ---- numbers of sends

pub number_by : (script : Script) (past : List Entry) (o : Option Queued) (n r i : ℕ) (same : Bool) (targets : Four Sent) → fits_next script past o n r i same targets ≡ true → n ≡ next_number past
number_by script past None n r i same targets h = absurd (false≢true h)
number_by script past (Some w) n r i same targets h = (goes script past w n r i same targets h).number

pub send-number : (script : Script) (past : List Entry) (n r i : ℕ) (same : Bool) (targets : Four Sent) → may_send script past n r i same targets ≡ true → n ≡ next_number past
send-number script past = number_by script past (next script past)

abbrev pub IsBelow : ℕ → List Entry → Type 0
IsBelow n past = nat_lt n (next_number past) ≡ true

newest_number : (n j k m : ℕ) → j ≡ k → m ≡ 1 + k → (j == n) ≡ true → nat_lt n m ≡ true
newest_number n j k m number next same = grind (arith, nat_tests, number, next, same)

-- a frame that was sent has a lower number than the next
pub sent-below : (script : Script) (past : List Entry) (n : ℕ) → IsLegal script past → is_sent n past ≡ true → IsBelow n past
sent-below script [] n legal h = absurd (false≢true h)
sent-below script (Send m r i same targets ∷ past) n legal h =
    let more = count-one is_numbering (Send m r i same targets) past refl in
    elim (cases_Bool (m.0 == n)) [
      | inl here ↦ newest_number n m.0 (next_number past) (next_number (Send m r i same targets ∷ past)) (send-number script past m.0 r.0 i same targets legal.0) more here
      | inr no' ↦ (let h' = rw no' at h in lt-more n (next_number past) (next_number (Send m r i same targets ∷ past)) more (sent-below script past n legal.1 h'))
    ]
sent-below script (Dropped m r i ∷ past) n legal h =
    let more = count-one is_numbering (Dropped m r i) past refl in
    lt-more n (next_number past) (next_number (Dropped m r i ∷ past)) more (sent-below script past n legal.1 h)
sent-below script (e ∷ past) n legal h = sent-below script past n legal.1 h

-- so the next to be sent wasn't sent before
pub not-the-next : (script : Script) (past : List Entry) (m n : ℕ) → IsLegal script past → m ≡ next_number past → is_sent n past ≡ true → (m == n) ≡ false
not-the-next script past m n legal number sent = apart m n (next_number past) number (sent-below script past n legal sent)
  where
    apart : (m n k : ℕ) → m ≡ k → nat_lt n k ≡ true → (m == n) ≡ false
    apart m n k number low = grind (arith, nat_tests, number, low)

-- the frames are those that were sent
pub frames-sent : (past : List Entry) → list_all (λ n. is_sent n past) (frames past) ≡ true
frames-sent [] = refl
frames-sent (Send m r i same targets ∷ past) =
    let own : (m.0 == m.0) ≡ true = grind (arith, nat_tests) in
    rw (own, all-where (λ n. is_sent n past) (λ n. is_sent n (Send m r i same targets ∷ past)) (frames past) (λ n sent. any-behind (sends n) (Send m r i same targets) past sent) (frames-sent past)) refl
frames-sent (e ∷ past) = frames-sent past

-- ---- one buffer for each stream

abbrev pub is_distinct : List ℕ → Bool
is_distinct [] = true
is_distinct (s ∷ streams) = not (list_any (λ u. u == s) streams) && is_distinct streams

none_kept : (p q : ℕ → Bool) (xs : List ℕ) → list_any q xs ≡ false → list_any q (filter p xs) ≡ false
none_kept p q [] none' = refl
none_kept p q (x ∷ xs) none' =
    elim (cases_Bool (q x)) [
      | inl here ↦ (let wrong = rw here at none' in absurd (false≢true (sym wrong)))
      | inr over ↦ (
          let rest = rw over at none' in
          let ih = none_kept p q xs rest in
          elim (cases_Bool (p x)) [ inl kept ↦ rw (kept, over) ih | inr no' ↦ rw no' ih ]
          )
    ]

-- what is kept of distinct streams is distinct
pub distinct_kept : (p : ℕ → Bool) (xs : List ℕ) → is_distinct xs ≡ true → is_distinct (filter p xs) ≡ true
distinct_kept p [] h = refl
distinct_kept p (x ∷ xs) h =
    let parts = and_parts (not (list_any (λ u. u == x) xs)) (is_distinct xs) h in
    let ih = distinct_kept p xs parts.1 in
    let once = none_kept p (λ u. u == x) xs (not-true (list_any (λ u. u == x) xs) parts.0) in
    elim (cases_Bool (p x)) [ inl kept ↦ rw (kept, once, ih) refl | inr no' ↦ rw no' ih ]

-- the target is for the stream, and with the buffer
abbrev pub is_with : ℕ → ℕ → Sent → Bool
is_with s b t = (t.stream.0 == s) && (t.buffer.0 == b)

-- the target has the buffer
abbrev pub holds : ℕ → Option Sent → Bool
holds b (Some t) = t.buffer.0 == b
holds b None = false

stream_among : (s b : ℕ) (targets : List Sent) (streams : List ℕ) → are_streams targets streams ≡ true → list_any (is_with s b) targets ≡ true → list_any (λ u. u == s) streams ≡ true
stream_among s b [] streams are any = absurd (false≢true any)
stream_among s b (t ∷ targets) [] are any = absurd (false≢true are)
stream_among s b (t ∷ targets) (u ∷ streams) are any =
    let parts = and_parts (t.stream.0 == u) (are_streams targets streams) are in
    let same : t.stream.0 ≡ u = grind (arith, nat_tests, parts.0) in
    elim (cases_Bool (t.stream.0 == s)) [
      | inl own ↦ (let here : (u == s) ≡ true = rw same at own in rw here refl)
      | inr other ↦ (let any' = rw other at any in any-behind (λ v. v == s) u streams (stream_among s b targets streams parts.1 any'))
    ]

one_for_stream : (s b : ℕ) (targets : List Sent) (streams : List ℕ) → are_streams targets streams ≡ true → is_distinct streams ≡ true → list_any (is_with s b) targets ≡ true → holds b (find (λ t. t.stream.0 == s) targets) ≡ true
one_for_stream s b [] streams are distinct any = absurd (false≢true any)
one_for_stream s b (t ∷ targets) [] are distinct any = absurd (false≢true are)
one_for_stream s b (t ∷ targets) (u ∷ streams) are distinct any =
    let parts = and_parts (t.stream.0 == u) (are_streams targets streams) are in
    let apart = and_parts (not (list_any (λ v. v == u) streams)) (is_distinct streams) distinct in
    elim (cases_Bool (t.stream.0 == s)) [
      | inl own ↦ elim (cases_Bool (t.buffer.0 == b)) [
        | inl here ↦ rw own here
        | inr no' ↦ (
            let any' = rw (own, no') at any in
            let again = stream_among s b targets streams parts.1 any' in
            let same : u ≡ s = same_stream t.stream.0 u s parts.0 own in
            let once : not (list_any (λ v. v == s) streams) ≡ true = rw same at apart.0 in
            let wrong : false ≡ true = rw again at once in
            absurd (false≢true wrong)
            )
      ]
      | inr other ↦ (let any' = rw other at any in rw other (one_for_stream s b targets streams parts.1 apart.1 any'))
    ]
  where
    same_stream : (t u s : ℕ) → (t == u) ≡ true → (t == s) ≡ true → u ≡ s
    same_stream t u s h k = grind (arith, nat_tests, h, k)

by_item : (script : Script) (past : List Entry) (o : Option Queued) (n r i : ℕ) (same : Bool) (targets : Four Sent) (s b : ℕ) → fits_next script past o n r i same targets ≡ true → list_any (is_with s b) (four_list targets) ≡ true → holds b (find (λ t. t.stream.0 == s) (four_list targets)) ≡ true
by_item script past None n r i same targets s b h any = absurd (false≢true h)
by_item script past (Some w) n r i same targets s b h any =
    one_for_stream s b (four_list targets) (targets_in_order w.item) (goes script past w n r i same targets h).streams (distinct_kept (λ u. list_any (λ t. t == u) (take w.item.targets.count w.item.targets.list)) (0 ∷ (1 ∷ (2 ∷ (3 ∷ [])))) refl) any

-- a send has one buffer for a stream
pub send-target : (script : Script) (past : List Entry) (n r i : ℕ) (same : Bool) (targets : Four Sent) (s b : ℕ) → may_send script past n r i same targets ≡ true → list_any (is_with s b) (four_list targets) ≡ true → holds b (find (λ t. t.stream.0 == s) (four_list targets)) ≡ true
send-target script past = by_item script past (next script past)

-- ---- buffers at the device

-- what an entry that doesn't name the buffer leaves
pub out-before : (past : List Entry) (e : Entry) (n s b : ℕ) → names b e ≡ false → is_at_device_by n s b (e ∷ past) ≡ true → is_at_device_by n s b past ≡ true
out-before past e n s b other h = rw other at h

sender : (n s b : ℕ) (e : Entry) → sends_with n s b (Some e) ≡ true → sends n e ≡ true
sender n s b (Send m r i same targets) h = (and_parts (m.0 == n) (list_any (is_with s b) (four_list targets)) h).0
sender n s b _ h = absurd (false≢true h)

-- a buffer at the device is there by a frame that was sent
pub out-sent : (past : List Entry) (n s b : ℕ) → is_at_device_by n s b past ≡ true → is_sent n past ≡ true
out-sent [] n s b h = absurd (false≢true h)
out-sent (e ∷ past) n s b h =
    elim (cases_Bool (names b e)) [
      | inl named ↦ (let h' : sends_with n s b (Some e) ≡ true = rw named at h in rw (sender n s b e h') refl)
      | inr other ↦ any-behind (sends n) e past (out-sent past n s b (out-before past e n s b other h))
    ]

-- and it is the one of its frame and stream
pub out-target : (script : Script) (past : List Entry) (n s b : ℕ) → IsLegal script past → is_at_device_by n s b past ≡ true → holds b (target_of n s past) ≡ true
out-target script [] n s b legal h = absurd (false≢true h)
out-target script (Send m r i same targets ∷ past) n s b legal h =
    elim (cases_Bool (names b (Send m r i same targets))) [
      | inl named ↦ (
          let h' = rw named at h in
          let by = and_parts (m.0 == n) (list_any (is_with s b) (four_list targets)) h' in
          rw by.0 (send-target script past m.0 r.0 i same targets s b legal.0 by.1)
          )
      | inr other ↦ (
          let out = out-before past (Send m r i same targets) n s b other h in
          let apart = not-the-next script past m.0 n legal.1 (send-number script past m.0 r.0 i same targets legal.0) (out-sent past n s b out) in
          rw apart (out-target script past n s b legal.1 out)
          )
    ]
out-target script (Filled m u c f d ∷ past) n s b legal h =
    elim (cases_Bool (c.0 == b)) [
      | inl named ↦ (let wrong = rw named at h in absurd (false≢true wrong))
      | inr other ↦ out-target script past n s b legal.1 (out-before past (Filled m u c f d) n s b other h)
    ]
out-target script (Failed m u c f ∷ past) n s b legal h =
    elim (cases_Bool (c.0 == b)) [
      | inl named ↦ (let wrong = rw named at h in absurd (false≢true wrong))
      | inr other ↦ out-target script past n s b legal.1 (out-before past (Failed m u c f) n s b other h)
    ]
out-target script (Early m u c d ∷ past) n s b legal h =
    elim (cases_Bool (c.0 == b)) [
      | inl named ↦ (let wrong = rw named at h in absurd (false≢true wrong))
      | inr other ↦ out-target script past n s b legal.1 (out-before past (Early m u c d) n s b other h)
    ]
out-target script (Release c f ∷ past) n s b legal h =
    elim (cases_Bool (c.0 == b)) [
      | inl named ↦ (let wrong = rw named at h in absurd (false≢true wrong))
      | inr other ↦ out-target script past n s b legal.1 (out-before past (Release c f) n s b other h)
    ]
out-target script (e ∷ past) n s b legal h = out-target script past n s b legal.1 h
