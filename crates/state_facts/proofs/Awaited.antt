-- While no frame is open an await that lacks frames lets the repeating list go on: at most 64 frames were sent before it
-- began, and all that were sent since are done.
use Rattle.std.proofs.Common.{◌≡◌, ◌⊎◌, ◌<◌, ◌≤◌, ℕ, ◌==◌, ◌+◌, Bool, true, false, ◌&&◌, not, List, [], ◌∷◌, Option, Some, None, refl, sym, arith, inl, inr, count_by, is_some, if◌then◌else◌}
use Rattle.std.specs.List.{list_any, list_all}
use Rattle.std.proofs.lemmas.Bool.{and_parts, both_ways, cases_Bool, eq-eqb, eqb-true, false≢true, not-true, or_right}
use Rattle.cam_types.specs.declared.four.Four.{Four}
use Rattle.cam_types.specs.declared.number.FrameNo.{FrameNo}
use Rattle.cam_types.specs.declared.number.RequestId.{RequestId}
use Rattle.cam_types.specs.declared.script.Command.{Command}
use Rattle.cam_types.specs.declared.script.Script.{Script}
use Rattle.cam_types.specs.declared.script.Word.{Word}
use Rattle.trace_model.specs.declared.entry.Entry.{Entry}
use Rattle.trace_model.specs.declared.entry.Entry.TheVariants.{Begin, Call, Send}
use Rattle.trace_model.specs.declared.entry.Sent.{Sent}
use Rattle.trace_model.specs.Calls.{begun, is_repeating, is_waiting_command, next_command, word_of}
use Rattle.trace_model.specs.Client.{before_begin, begin_of, done_since_begin}
use Rattle.trace_model.specs.Entry.{sends}
use Rattle.trace_model.specs.Frames.{frames, is_repeating_frame, is_sent}
use Rattle.trace_model.specs.Legal.{IsLegal}
use Rattle.trace_model.specs.Open.{is_done, is_quiet}
use Rattle.trace_model.specs.Queue.{is_taken, queued, submitted}
use Rattle.cam_types.specs.declared.request.WaitingItem.{WaitingItem}
use Rattle.trace_model.specs.Send.{awaited, awaited_in, may_send, repeated_since_call}
use Rattle.trace_laws.proofs.FrameLemmas.{send-of, takes_it}
use Rattle.trace_laws.proofs.Printed.{one-of-all}
use Rattle.trace_laws.proofs.Submitted.{is_settled, settled}
use Rattle.state_facts.proofs.FrameDone.{counted}
use Rattle.state_facts.proofs.Pairs.{count-length, count-where}
use Rattle.state_facts.proofs.FrameRows.{not_sent}
use Rattle.trace_laws.proofs.BufferSends.{frames-sent, not-the-next, send-number}
use Rattle.state_facts.proofs.Quiet.{quiet-done}
use Rattle.basic_lemmas.proofs.Lists.{all-filtered}
use Rattle.basic_lemmas.proofs.Tests.{and-true, passed-where}
use Rattle.basic_lemmas.proofs.Counts.{count-cons}

-- ---- a send is counted only where it may repeat

queue_settled : (script : Script) (past : List Entry) (n : FrameNo) (r : RequestId) (i : ℕ) (same : Bool) (targets : Four Sent) → IsLegal script past → list_any (takes_it (Send n r i same targets)) (queued script past) ≡ true → is_repeating script past r.0 ≡ false
queue_settled script past n r i same targets legal any =
    one-of-all (is_repeating script past r.0 ≡ false) (is_settled script past) (takes_it (Send n r i same targets)) (queued script past)
    (λ w h taken. by w h taken)
    (all-filtered (is_settled script past) (λ w. not (is_taken past w)) (submitted script past) (settled script past legal)) any
  where
    by : (w : WaitingItem) → is_settled script past w ≡ true → takes_it (Send n r i same targets) w ≡ true → is_repeating script past r.0 ≡ false
    by w h taken =
        let not' = not-true (is_repeating script past w.request.0) (and_parts _ (not (is_repeating script past w.request.0)) h).1 in
        let at = eqb-true r.0 w.request.0 (and_parts (r.0 == w.request.0) (i == w.index) taken).0 in
        rw at not'

send_counts : (script : Script) (past : List Entry) (n : FrameNo) (r : RequestId) (i : ℕ) (same : Bool) (targets : Four Sent) → IsLegal script past → may_send script past n.0 r.0 i same targets ≡ true → (is_repeating script past r.0 ≡ false) ⊎ (repeated_since_call script past < 64 + awaited script past)
send_counts script past n r i same targets legal may =
    elim (send-of script past n r i same targets legal may) [
      | inl queue ↦ inl (queue_settled script past n r i same targets legal queue.1)
      | inr list ↦ inr list.2
    ]

-- ---- before a begin

one_at_most : (b : Bool) → ◌≤◌ (if b then 1 else 0) 1
one_at_most true = omega arith
one_at_most false = omega arith

before-begun : (script : Script) (past : List Entry) → IsLegal script past → begun past ≡ None → repeated_since_call script past ≤ 64
before-begun script [] legal none = omega arith
before-begun script (Begin w ∷ past) legal none = absurd (cc)
before-begun script (Call i w r ∷ past) legal none = omega arith
before-begun script (Send n r i same targets ∷ past) legal none =
    let ih = before-begun script past legal.1 none in
    elim (send_counts script past n r i same targets legal.1 legal.0) [
      | inl once ↦ rw once (omega (arith, ih))
      | inr less ↦ (
          let less' : repeated_since_call script past < 64 + awaited_in None (next_command script past) = rw none at less in
          let one = one_at_most (is_repeating script past r.0) in
          omega (arith, less', one)
          )
    ]
before-begun script (e ∷ past) legal none = before-begun script past legal.1 none

pub begins_first : (past : List Entry) (o : Option Command) (w : Word) → begin_of past o ≡ Some (Begin w) → begun past ≡ None
begins_first past None w h = absurd (cc)
begins_first past (Some c) w h =
    let given = passed-where (is_waiting_command c && not (is_some (begun past))) (Begin (word_of c)) (Begin w) h in
    none_of (begun past) (not-true (is_some (begun past)) (and_parts (is_waiting_command c) (not (is_some (begun past))) given).1)
  where
    none_of : (o : Option Word) → is_some o ≡ false → o ≡ None
    none_of None h = refl
    none_of (Some v) h = absurd (false≢true (sym h))

-- ---- since a begin

-- the frame repeats and was sent since the last begin
abbrev pub is_fresh : Script → List Entry → ℕ → Bool
is_fresh script past n = is_repeating_frame script past n && not (is_sent n (before_begin past))

before-sent : (n : ℕ) (past : List Entry) → is_sent n (before_begin past) ≡ true → is_sent n past ≡ true
before-sent n [] h = h
before-sent n (Begin w ∷ past) h = h
before-sent n (e ∷ past) h = or_right (sends n e) (is_sent n past) (before-sent n past h)

not_before : (n : ℕ) (past : List Entry) → is_sent n past ≡ false → is_sent n (before_begin past) ≡ false
not_before n past none =
    elim (cases_Bool (is_sent n (before_begin past))) [
      | inl had ↦ absurd (both_ways (is_sent n past) none (before-sent n past had))
      | inr other ↦ other
    ]

since-begun : (script : Script) (past : List Entry) (w : Word) → IsLegal script past → begun past ≡ Some w → repeated_since_call script past ≤ 64 + count_by (is_fresh script past) (frames past)
since-begun script [] w legal at = absurd (cc)
since-begun script (Begin v ∷ past) w legal at = let few = before-begun script past legal.1 (begins_first past (next_command script past) v legal.0) in omega (arith, few)
since-begun script (Call i v r ∷ past) w legal at = absurd (cc)
since-begun script (Send n r i same targets ∷ past) w legal at =
    let e = Send n r i same targets in
    let ih = since-begun script past w legal.1 at in
    let number = send-number script past n.0 r.0 i same targets legal.0 in
    let fresh : is_fresh script (e ∷ past) n.0 ≡ is_repeating script past r.0 = rw (eq-eqb n.0 n.0 refl, not_before n.0 past (not_sent script past n.0 legal.1 number)) (and-true (is_repeating script past r.0)) in
    let rest = count-where (λ m. is_sent m past) (is_fresh script (e ∷ past)) (is_fresh script past) (frames past) (λ m sent. rw (not-the-next script past n.0 m legal.1 number sent) refl) (frames-sent past) in
    let one = count-cons (is_fresh script (e ∷ past)) n.0 (frames past) in
    let first : ◌≡◌ {A = ℕ} (if is_fresh script (e ∷ past) n.0 then 1 else 0) (if is_repeating script past r.0 then 1 else 0) = rw fresh refl in
    omega (arith, ih, rest, one, first)
since-begun script (e ∷ past) w legal at = since-begun script past w legal.1 at

-- ---- what is done

count_less : (s p q : ℕ → Bool) (xs : List ℕ) → ((x : ℕ) → s x ≡ true → p x ≡ true → q x ≡ true) → list_all s xs ≡ true → count_by p xs ≤ count_by q xs
count_less s p q [] each all = omega arith
count_less s p q (x ∷ xs) each all =
    let parts = and_parts (s x) (list_all s xs) all in
    let ih = count_less s p q xs each parts.1 in
    let a = count-cons p x xs in
    let b = count-cons q x xs in
    elim (cases_Bool (p x)) [
      | inl here ↦ (
          let a' : ◌≡◌ {A = ℕ} (if p x then 1 else 0) 1 = rw here refl in
          let b' : ◌≡◌ {A = ℕ} (if q x then 1 else 0) 1 = rw (each x parts.0 here) refl in
          omega (arith, ih, a, b, a', b')
          )
      | inr other ↦ (let a' : ◌≡◌ {A = ℕ} (if p x then 1 else 0) 0 = rw other refl in omega (arith, ih, a, b, a'))
    ]

fresh_done : (script : Script) (past : List Entry) (n : ℕ) → is_quiet past ≡ true → is_sent n past ≡ true → is_fresh script past n ≡ true → counted script past n ≡ true
fresh_done script past n quiet sent fresh =
    let parts = and_parts (is_repeating_frame script past n) (not (is_sent n (before_begin past))) fresh in
    let unsent = not-true (is_sent n (before_begin past)) parts.1 in
    let done = quiet-done past n quiet sent in
    let now : is_done n past ≡ true = rw (sent, done.ended, done.back) refl in
    let before : is_done n (before_begin past) ≡ false = rw unsent refl in
    rw (parts.0, now, before) refl

pub await-few : (script : Script) (past : List Entry) (w : Word) → IsLegal script past → is_quiet past ≡ true → begun past ≡ Some w → repeated_since_call script past ≤ 64 + done_since_begin script past
await-few script past w legal quiet at =
    let since = since-begun script past w legal at in
    let less = count_less (λ n. is_sent n past) (is_fresh script past) (counted script past) (frames past) (λ n sent fresh. fresh_done script past n quiet sent fresh) (frames-sent past) in
    let same = count-length (counted script past) (frames past) in
    omega (arith, since, less, same)

-- ---- the word that has begun

begins_word : (past : List Entry) (o : Option Command) (w : Word) (c : Command) → begin_of past o ≡ Some (Begin w) → o ≡ Some c → w ≡ word_of c
begins_word past None w c h at = absurd (cc)
begins_word past (Some d) w c h at =
    let same : d ≡ c = cc in
    rw (← same) (by (is_waiting_command d && not (is_some (begun past))) h)
  where
    by : (b : Bool) → (if b then Some (Begin (word_of d)) else None) ≡ Some (Begin w) → w ≡ word_of d
    by true h = cc
    by false h = absurd (cc)

pub begun-word : (script : Script) (past : List Entry) (w : Word) (c : Command) → IsLegal script past → begun past ≡ Some w → next_command script past ≡ Some c → w ≡ word_of c
begun-word script [] w c legal at next = absurd (cc)
begun-word script (Begin v ∷ past) w c legal at next = let same : v ≡ w = cc in rw (← same) (begins_word past (next_command script past) v c legal.0 next)
begun-word script (Call i v r ∷ past) w c legal at next = absurd (cc)
begun-word script (e ∷ past) w c legal at next = begun-word script past w c legal.1 at next
