-- While no frame is open: no buffer is at the device, and each buffer is in the pool or at the client.
use Rattle.std.proofs.Common.{◌≡◌, ◌⊎◌, ◌≤◌, ℕ, zero, suc, ◌==◌, ◌+◌, Bool, true, false, not, List, [], ◌∷◌, Option, Some, None, refl, sym, ◌∙◌, arith, inl, inr, is_some, nat_le, nat_lt, ◌&&◌}
use Rattle.std.specs.List.{list_all, range_with_len}
use Rattle.std.proofs.lemmas.Bool.{and_from, and_parts, cases_Bool, eqb-true, false≢true, lt-ltb}
use Rattle.std.proofs.lemmas.Bool.Decides.{nat_tests}
use Rattle.cam_types.specs.declared.number.DeviceFenceNo.{DeviceFenceNo}
use Rattle.cam_types.specs.declared.reply.Made.{Made}
use Rattle.cam_types.specs.declared.script.Script.{Script}
use Rattle.trace_model.specs.declared.entry.Entry.{Entry}
use Rattle.trace_model.specs.declared.entry.Entry.TheVariants.{Early, Failed, Filled, Release, Send}
use Rattle.trace_model.specs.declared.entry.Sent.{Sent}
use Rattle.trace_model.specs.Complete.{is_all_signalled, released}
use Rattle.trace_model.specs.Configuration.{made, made_count, numbers_of}
use Rattle.trace_model.specs.Fence.{early_fence_of, is_signalled, is_there}
use Rattle.trace_model.specs.Entry.{is_early, names}
use Rattle.trace_model.specs.Frames.{frames, has_target, is_sent, target_of, targets_of}
use Rattle.trace_model.specs.Legal.{IsLegal}
use Rattle.trace_model.specs.Numbers.{next_early, next_fence}
use Rattle.trace_model.specs.Open.{all_settled, is_metadata_ended, is_open, is_quiet, open_count}
use Rattle.trace_model.specs.Place.{Place, Pool, Device, Client, all_in_pool, is_at, is_at_device_by, place}
use Rattle.trace_model.specs.Send.{at_device_count}
use Rattle.trace_laws.proofs.Printed.{one-of-all}
use Rattle.trace_laws.proofs.Shapes.{early-is}
use Rattle.trace_laws.proofs.Early.{late-when-quiet}
use Rattle.trace_laws.proofs.Fences.{released-low}
use Rattle.trace_laws.proofs.Once.{out-not-returned}
use Rattle.trace_laws.proofs.Own.{at-device-by-some}
use Rattle.trace_laws.proofs.BufferSends.{holds, out-sent, out-target, frames-sent}
use Rattle.state_facts.specs.FrameReadings.{is_none_left}
use Rattle.state_facts.specs.Row.{Row, open_rows}
use Rattle.state_facts.proofs.Errors.{done-returned}
use Rattle.state_facts.proofs.OpenRows.{IsDone, count_reads, frame-among, quiet_reads}
use Rattle.state_facts.proofs.Room.{out_reads}
use Rattle.state_facts.proofs.Below.{made-below}
use Rattle.basic_lemmas.proofs.Counts.{count-cons}
use Rattle.state_facts.proofs.Least.{done_by}
use Rattle.basic_lemmas.proofs.Lists.{any-found, all-where-both}
use Rattle.trace_laws.proofs.Done.{closed-stays}
use Rattle.basic_lemmas.proofs.Tests.{not-true}

-- each frame that was sent is done
pub quiet-done : (past : List Entry) (n : ℕ) → is_quiet past ≡ true → is_sent n past ≡ true → IsDone past n
quiet-done past n quiet sent =
    let closed = one-of-all (not (is_open n past) ≡ true) (λ m. not (is_open m past)) (λ m. m == n) (frames past) (λ m closed at. rw (eqb-true m n at) at closed) quiet (frame-among n past ∙ sent) in
    let parts = done_by (is_sent n past) (is_metadata_ended n past) (all_settled n past) sent closed in
    record { ended = parts.0; back = parts.1 }

pub quiet-closed : (past : List Entry) (n : ℕ) → is_quiet past ≡ true → is_open n past ≡ true → ⊥
quiet-closed past n quiet opened =
    let parts = and_parts (is_sent n past) (not (is_metadata_ended n past && all_settled n past)) opened in
    let done = quiet-done past n quiet parts.0 in
    let wrong : false ≡ true = rw (done.ended, done.back) at parts.1 in
    false≢true wrong

-- and stays so
pub quiet-stays : (script : Script) (past : List Entry) (e : Entry) → IsLegal script (e ∷ past) → is_quiet past ≡ true → list_all (λ n. not (is_open n (e ∷ past))) (frames past) ≡ true
quiet-stays script past e legal quiet =
    all-where-both (λ n. not (is_open n past)) (λ n. is_sent n past) (λ n. not (is_open n (e ∷ past))) (frames past)
    (λ n closed sent. rw (closed-stays script past e n legal sent (not-true (is_open n past) closed)) refl) quiet (frames-sent past)

-- ---- rows

none_left : (rows : List Row) → is_none_left rows ≡ true → rows ≡ []
none_left [] h = refl
none_left (r ∷ rows) h = absurd (false≢true h)

no_rows : (script : Script) (past : List Entry) → IsLegal script past → is_quiet past ≡ true → open_rows script past ≡ []
no_rows script past legal quiet = none_left (open_rows script past) (sym (quiet_reads script past legal) ∙ quiet)

pub none-open : (script : Script) (past : List Entry) → IsLegal script past → is_quiet past ≡ true → open_count past ≡ 0
none-open script past legal quiet = rw (count_reads script past legal, no_rows script past legal quiet) refl

pub none-out : (script : Script) (past : List Entry) (s : ℕ) → IsLegal script past → is_quiet past ≡ true → at_device_count past s ≡ 0
none-out script past s legal quiet = rw (out_reads script past legal s, no_rows script past legal quiet) refl

-- ---- places

held_some : (b : ℕ) (o : Option Sent) → holds b o ≡ true → is_some o ≡ true
held_some b (Some t) h = refl
held_some b None h = absurd (false≢true h)

not_at_device : (script : Script) (past : List Entry) (b : ℕ) → IsLegal script past → is_quiet past ≡ true → is_at (place b past) Device ≡ true → ⊥
not_at_device script past b legal quiet at =
    let by = at-device-by-some past b at in
    let out : is_at_device_by by.0 by.1 b past ≡ true = by.2 in
    let done = quiet-done past by.0 quiet (out-sent past by.0 by.1 b out) in
    let back = done-returned past by.0 by.1 done in
    let gone = out-not-returned script past by.0 by.1 b legal out in
    let has : has_target by.0 by.1 past ≡ true = any-found (λ t. t.stream.0 == by.1) (targets_of by.0 past) ∙ held_some b (target_of by.0 by.1 past) (out-target script past by.0 by.1 b legal out) in
    let wrong : false ≡ true = rw (has, gone) at back in
    false≢true wrong

place_cases : (p : Place) → is_at p Pool ≡ false → (is_at p Device ≡ true) ⊎ (is_at p Client ≡ true)
place_cases Pool h = absurd (false≢true (sym h))
place_cases Device h = inl refl
place_cases Client h = inr refl

pub not-all : {X : Type 0} (C : Type 0) (s p : X → Bool) (xs : List X) → ((x : X) → s x ≡ true → p x ≡ false → C) → list_all s xs ≡ true → list_all p xs ≡ false → C
not-all C s p [] each all h = absurd (false≢true (sym h))
not-all C s p (x ∷ xs) each all h =
    let parts = and_parts (s x) (list_all s xs) all in
    elim (cases_Bool (p x)) [
      | inl here ↦ (let h' = rw here at h in not-all C s p xs each parts.1 h')
      | inr other ↦ each x parts.0 other
    ]

range_below : (a n k : ℕ) → a + n ≤ k → list_all (λ b. nat_lt b k) (range_with_len a n) ≡ true
range_below a zero k l = refl
range_below a (suc n) k l = and_from _ _ (lt-ltb a k (omega (arith, l))) (range_below (a + 1) n k (omega (arith, l)))

-- the device fence of a buffer that went to the client early was given
abbrev pub is_low : Option DeviceFenceNo → List Entry → Bool
is_low None past = true
is_low (Some d) past = nat_lt d.0 (next_early past)

low_more : (e : Entry) (past : List Entry) (o : Option DeviceFenceNo) → is_low o past ≡ true → is_low o (e ∷ past) ≡ true
low_more e past None h = refl
low_more e past (Some d) h = let more = count-cons is_early e past in by d.0 (next_early past) (next_early (e ∷ past)) _ h more
  where
    by : (f a b k : ℕ) → nat_lt f a ≡ true → b ≡ k + a → nat_lt f b ≡ true
    by f a b k h more = grind (arith, nat_tests, h, more)

low_now : (script : Script) (past : List Entry) (e : Entry) (b : ℕ) → IsLegal script (e ∷ past) → names b e ≡ true → is_low (early_fence_of b (e ∷ past)) (e ∷ past) ≡ true
low_now script past (Early n s c d) b legal h =
    let number = (early-is script past n s c d legal.0).4 in
    let one = count-cons is_early (Early n s c d) past in
    rw h (by d.0 (next_early past) (next_early (Early n s c d ∷ past)) number one)
  where
    by : (f a b : ℕ) → f ≡ a → b ≡ 1 + a → nat_lt f b ≡ true
    by f a b number one = grind (arith, nat_tests, number, one)
low_now script past (Send n r i same targets) b legal h = rw h refl
low_now script past (Filled n s c f d) b legal h = rw h refl
low_now script past (Failed n s c f) b legal h = rw h refl
low_now script past (Release c f) b legal h = rw h refl
low_now script past _ b legal h = absurd (false≢true h)

pub early-low : (script : Script) (past : List Entry) (b : ℕ) → IsLegal script past → is_low (early_fence_of b past) past ≡ true
early-low script [] b legal = refl
early-low script (e ∷ past) b legal =
    elim (cases_Bool (names b e)) [
      | inl named ↦ low_now script past e b legal named
      | inr other ↦ rw other (low_more e past (early_fence_of b past) (early-low script past b legal.1))
    ]

-- and while no frame is open it is signalled
pub there-when-quiet : (script : Script) (past : List Entry) (b : ℕ) → IsLegal script past → is_quiet past ≡ true → is_there (early_fence_of b past) past ≡ true
there-when-quiet script past b legal quiet = by (early_fence_of b past) (early-low script past b legal)
  where
    by : (o : Option DeviceFenceNo) → is_low o past ≡ true → is_there o past ≡ true
    by None low = refl
    by (Some d) low = late-when-quiet script past d.0 legal quiet low

abbrev IsAtClient : List Entry → Type 0
IsAtClient past = (b : ℕ) × (is_at (place b past) Client ≡ true) × (nat_lt b (made_count past) ≡ true)

less_still : (b k n : ℕ) → nat_lt b k ≡ true → nat_le k n ≡ true → nat_lt b n ≡ true
less_still b k n h l = grind (arith, nat_tests, h, l)

-- every buffer of the configuration is in the pool, or one is at the client
pub pool-or-client : (script : Script) (past : List Entry) → IsLegal script past → is_quiet past ≡ true → (all_in_pool past ≡ true) ⊎ ((b : ℕ) × (is_at (place b past) Client ≡ true) × (nat_lt b (made_count past) ≡ true))
pool-or-client script past legal quiet =
    elim (cases_Bool (all_in_pool past)) [
      | inl home ↦ inl home
      | inr away ↦ inr (not-all (IsAtClient past) (λ m. nat_le (m.first.0 + m.count) (made_count past)) (λ (m : Made). list_all (λ b. is_at (place b past) Pool) (numbers_of (Some m))) (made past)
          (λ m low some. not-all (IsAtClient past) (λ b. nat_lt b (m.first.0 + m.count)) (λ b. is_at (place b past) Pool) (numbers_of (Some m)) (λ b less gone. by b (place_cases (place b past) gone) (less_still b (m.first.0 + m.count) (made_count past) less low)) (range_below m.first.0 m.count (m.first.0 + m.count) (omega arith)) some) (made-below script past legal) away)
    ]
  where
    by : (b : ℕ) → (is_at (place b past) Device ≡ true) ⊎ (is_at (place b past) Client ≡ true) → nat_lt b (made_count past) ≡ true → IsAtClient past
    by b (inl device) less = absurd (not_at_device script past b legal quiet device)
    by b (inr client) less = (b, client, less)

-- ---- fences

-- every released fence is signalled, or one can be
pub signalled-or-not : (script : Script) (past : List Entry) → IsLegal script past → (is_all_signalled past ≡ true) ⊎ ((f : ℕ) × (nat_lt f (next_fence past) ≡ true) × (is_signalled f past ≡ false))
signalled-or-not script past legal =
    elim (cases_Bool (is_all_signalled past)) [
      | inl all ↦ inl all
      | inr some ↦ inr (find_one (released past) (released-low script past legal) some)
    ]
  where
    find_one : (fs : List ℕ) → list_all (λ f. nat_lt f (next_fence past)) fs ≡ true → list_all (λ f. is_signalled f past) fs ≡ false → (f : ℕ) × (nat_lt f (next_fence past) ≡ true) × (is_signalled f past ≡ false)
    find_one [] low h = absurd (false≢true (sym h))
    find_one (f ∷ fs) low h =
        let parts = and_parts (nat_lt f (next_fence past)) (list_all (λ g. nat_lt g (next_fence past)) fs) low in
        elim (cases_Bool (is_signalled f past)) [
          | inl here ↦ (let h' = rw here at h in find_one fs parts.1 h')
          | inr other ↦ (f, parts.0, other)
        ]
