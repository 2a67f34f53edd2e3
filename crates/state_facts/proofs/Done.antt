-- With which frames the device is done.
use Rattle.std.proofs.Common.{◌≡◌, ℕ, ◌==◌, ◌+◌, ◌≤◌, Bool, true, false, ◌&&◌, ◌||◌, not, List, [], ◌∷◌, Option, Some, refl, sym, ap, ◌∙◌, arith, inl, inr, filter, find, length, nat_lt}
use Rattle.std.specs.List.{list_any, list_all}
use Rattle.std.proofs.lemmas.Bool.{and_from, and_parts, cases_Bool, false≢true, ltb-true, ne_eqb}
use Rattle.cam_types.specs.declared.four.Four.{Four}
use Rattle.cam_types.specs.declared.number.BufferId.{BufferId}
use Rattle.cam_types.specs.declared.number.DeviceFenceNo.{DeviceFenceNo}
use Rattle.cam_types.specs.declared.number.StreamIx.{StreamIx}
use Rattle.cam_types.specs.declared.number.FrameNo.{FrameNo}
use Rattle.cam_types.specs.declared.number.RequestId.{RequestId}
use Rattle.cam_types.specs.declared.reply.Reply.TheVariants.{Submitted}
use Rattle.cam_types.specs.declared.script.Script.{Script}
use Rattle.cam_types.specs.declared.script.Word.{Word}
use Rattle.trace_model.specs.declared.entry.Entry.{Entry}
use Rattle.trace_model.specs.declared.entry.Entry.TheVariants.{Call, Send, Partial, ErrorRequest, ErrorResult, Early, Late}
use Rattle.trace_model.specs.declared.entry.Sent.{Sent}
use Rattle.trace_model.specs.Calls.{request_count}
use Rattle.trace_model.specs.Client.{before_begin, call_due, done_since_begin}
use Rattle.trace_model.specs.Entry.{is_early_with, sends}
use Rattle.trace_model.specs.Filled.{early_due}
use Rattle.trace_model.specs.Frames.{frames, is_repeating_frame, is_sent, repeats_in, send_of, targets_of}
use Rattle.trace_model.specs.Laws.{ends_metadata}
use Rattle.trace_model.specs.Legal.{IsLegal}
use Rattle.trace_model.specs.Numbers.{next_number}
use Rattle.trace_model.specs.Open.{all_settled, is_done, is_metadata_ended, is_settled}
use Rattle.trace_model.specs.Send.{may_send}
use Rattle.trace_laws.proofs.Shapes.{late-is}
use Rattle.trace_laws.proofs.Metadata.{ended-by}
use Rattle.trace_laws.proofs.Sends.{sent-below}
use Rattle.trace_laws.proofs.Submitted.{request-number}
use Rattle.trace_laws.proofs.Done.{done-more, done-before}
use Rattle.trace_laws.proofs.Frames.{below-next, frames-fall, sent-listed}
use Rattle.trace_laws.proofs.Settled.{settled-early, settled-signalled, not-its}
use Rattle.state_facts.proofs.Names.{names_request, unnamed}
use Rattle.state_facts.specs.Clients.{ends_early, ends_frame, finishes, one_if}
use Rattle.state_facts.proofs.Counts.{filter-agree, one-more}
use Rattle.basic_lemmas.proofs.Tests.{or-alone}
use Rattle.basic_lemmas.proofs.Lists.{all-agree}
use Rattle.trace_laws.proofs.BufferSends.{send-number}
use Rattle.basic_lemmas.proofs.Shared.{found-also}
use Rattle.trace_laws.proofs.Told.{sent-for, tells}

-- ---- an entry of frame n, which changes nothing of the others

abbrev pub counts : Script → List Entry → List Entry → ℕ → Bool
counts script past now n = is_repeating_frame script past n && (is_done n now && not (is_done n (before_begin past)))

by-old : (r d o d' : Bool) → (o ≡ true → d ≡ true) → ((r && (d' && not o)) && not (r && (d && not o))) ≡ (r && (d' && not d))
by-old false d o d' h = refl
by-old true d true d' h = rw (h refl) (no-end d')
  where
    no-end : (d' : Bool) → ((d' && false) && not (true && false)) ≡ (d' && false)
    no-end true = refl
    no-end false = refl
by-old true true false d' h = end-not d'
  where
    end-not : (d' : Bool) → ((d' && true) && false) ≡ (d' && false)
    end-not true = refl
    end-not false = refl
by-old true false false true h = refl
by-old true false false false h = refl

pub one-finished : (script : Script) (past : List Entry) (e : Entry) (n : ℕ) → IsLegal script (e ∷ past) → sends n e ≡ false → ((m : ℕ) → (n == m) ≡ false → is_done m (e ∷ past) ≡ is_done m past) → length (filter (counts script past (e ∷ past)) (frames past)) ≡ one_if (ends_frame script past n e) + done_since_begin script past
one-finished script past e n legal other same =
    let p : ℕ → Bool = counts script past past in
    let q : ℕ → Bool = counts script past (e ∷ past) in
    let repeats = is_repeating_frame script past n in
    let old = is_done n (before_begin past) in
    let more : p n ≡ true → q n ≡ true = λ h.
    let parts = and_parts repeats (is_done n past && not old) h in
    let both = and_parts (is_done n past) (not old) parts.1 in
    and_from _ _ parts.0 (and_from _ _ (done-more n e past other both.0) both.1) in
    let listed : q n ≡ true → list_any (λ m. m == n) (frames past) ≡ true = λ h.
    let parts = and_parts repeats (is_done n (e ∷ past) && not old) h in
    let both = and_parts (is_done n (e ∷ past)) (not old) parts.1 in
    let sent = (and_parts (is_sent n (e ∷ past)) (is_metadata_ended n (e ∷ past) && all_settled n (e ∷ past)) both.0).0 in
    let sent' : is_sent n past ≡ true = rw other at sent in
    sent-listed past n sent' in
    let all = one-more p q n (frames past) (frames-fall script past legal.1)
    (λ m no'. rw (same m no') refl) more listed in
    all ∙ ap (λ b. one_if b + done_since_begin script past) (by-old repeats (is_done n past) old (is_done n (e ∷ past)) (done-before script past n legal.1))

-- ---- a send, whose frame isn't done

ends-tells : (n : ℕ) (e : Entry) → ends_metadata n e ≡ true → tells n e ≡ true
ends-tells n (Partial m k part) h = (and_parts (m.0 == n) (k == 3) (or-alone ((m.0 == n) && (k == 3)) h)).0
ends-tells n (ErrorResult m) h = or-alone (m.0 == n) h
ends-tells n (ErrorRequest m) h = h
ends-tells n _ h = absurd (false≢true h)

not-ended : (script : Script) (past : List Entry) (n : ℕ) → IsLegal script past → next_number past ≤ n → is_metadata_ended n past ≡ false
not-ended script past n legal above = elim (cases_Bool (is_metadata_ended n past)) [
  | inl ended ↦ absurd (let below = sent-below script past n legal (sent-for script past n (ends_metadata n) legal (ends-tells n) (ended-by n past ∙ ended)) in omega (arith, below, above))
  | inr open_ ↦ open_
]

no-new : (r s e a o : Bool) → e ≡ false → (r && ((s && (e && a)) && o)) ≡ false
no-new true true e a o h = rw h refl
no-new true false e a o h = refl
no-new false s e a o h = refl

other-send : (script : Script) (past : List Entry) (n : FrameNo) (r : RequestId) (i : ℕ) (same : Bool) (targets : Four Sent) (m : ℕ) → (n.0 == m) ≡ false → counts script (Send n r i same targets ∷ past) (Send n r i same targets ∷ past) m ≡ counts script past past m
other-send script past n r i same targets m other = rw other refl

pub done-sent : (script : Script) (past : List Entry) (n : FrameNo) (r : RequestId) (i : ℕ) (same : Bool) (targets : Four Sent) → IsLegal script past → may_send script past n.0 r.0 i same targets ≡ true → done_since_begin script (Send n r i same targets ∷ past) ≡ done_since_begin script past
done-sent script past n r i same targets legal may =
    let now = Send n r i same targets ∷ past in
    let number = send-number script past n.0 r.0 i same targets may in
    let new : counts script now now n.0 ≡ false = no-new (is_repeating_frame script now n.0) (is_sent n.0 now) (is_metadata_ended n.0 now) (all_settled n.0 now) (not (is_done n.0 (before_begin past))) (not-ended script past n.0 legal (omega (arith, number))) in
    let old = filter-agree (λ m. nat_lt m (next_number past)) (counts script now now) (counts script past past) (frames past) (below-next script past legal)
    (λ m less. other-send script past n r i same targets m (ne_eqb n.0 m (λ at. absurd (omega (arith, number, ltb-true m (next_number past) less, at))))) in
    rw new (ap (λ (xs : List ℕ). length xs) old)

-- ---- a call, which changes nothing of the requests of frames

repeats-same : (script : Script) (past : List Entry) (i : ℕ) (word : Word) (q : RequestId) (n : ℕ) (o : Option Entry) → IsLegal script past → q.0 ≡ request_count past → send_of n past ≡ o → repeats_in script (Call i word (Submitted q) ∷ past) o ≡ repeats_in script past o
repeats-same script past i word q n (Some (Send m r k same targets)) legal number at =
    let own : (r.0 == r.0) ≡ true = grind arith in
    let other : (q.0 == r.0) ≡ false = ne_eqb q.0 r.0 (λ eq. absurd (false≢true (sym (unnamed script past r.0 legal (omega (arith, number, eq))) ∙ found-also (sends n) (names_request r.0) past (Send m r k same targets) at own))) in
    rw other refl
repeats-same script past i word q n o legal number at = refl

pub done-submitted : (script : Script) (past : List Entry) (i : ℕ) (word : Word) (q : RequestId) → IsLegal script past → call_due script past ≡ Some (Call i word (Submitted q)) → done_since_begin script (Call i word (Submitted q) ∷ past) ≡ done_since_begin script past
done-submitted script past i word q legal may =
    let now = Call i word (Submitted q) ∷ past in
    let number = request-number script past i word q may in
    ap (λ (xs : List ℕ). length xs) (filter-agree (λ m. nat_lt m (next_number past)) (counts script now now) (counts script past past) (frames past) (below-next script past legal)
    (λ m less. ap (λ b. b && (is_done m past && not (is_done m (before_begin past)))) (repeats-same script past i word q m (send_of m past) legal number refl)))

-- ---- an early return, after which the device is done with no further frame

done-early : (script : Script) (past : List Entry) (n : FrameNo) (s : StreamIx) (b : BufferId) (d : DeviceFenceNo) (m : ℕ) → IsLegal script past → early_due script past n.0 s.0 ≡ Some (Early n s b d) → is_done m (Early n s b d ∷ past) ≡ is_done m past
done-early script past n s b d m legal may =
    ap (λ a. is_sent m past && (is_metadata_ended m past && a)) (all-agree (λ (t : Sent). is_settled m t.stream.0 (Early n s b d ∷ past)) (λ t. is_settled m t.stream.0 past) (targets_of m past) (λ t. settled-early script past n s b d m t.stream.0 legal may))

pub done-given : (script : Script) (past : List Entry) (n : FrameNo) (s : StreamIx) (b : BufferId) (d : DeviceFenceNo) → IsLegal script past → early_due script past n.0 s.0 ≡ Some (Early n s b d) → done_since_begin script (Early n s b d ∷ past) ≡ done_since_begin script past
done-given script past n s b d legal may =
    ap (λ (xs : List ℕ). length xs) (filter-agree (λ _. true) (counts script past (Early n s b d ∷ past)) (counts script past past) (frames past) (all-true (frames past))
    (λ m yes'. ap (λ x. is_repeating_frame script past m && (x && not (is_done m (before_begin past)))) (done-early script past n s b d m legal may)))
  where
    all-true : (xs : List ℕ) → list_all (λ _. true) xs ≡ true
    all-true [] = refl
    all-true (x ∷ xs) = all-true xs

-- ---- a device's signal, after which it may be done with the frame of the early return

done-late : (script : Script) (past : List Entry) (g : DeviceFenceNo) (x : List ℕ) (n : FrameNo) (s : StreamIx) (b : BufferId) (f : DeviceFenceNo) (m : ℕ) → IsLegal script past → find (is_early_with g.0) past ≡ Some (Early n s b f) → (n.0 == m) ≡ false → is_done m (Late g x ∷ past) ≡ is_done m past
done-late script past g x n s b f m legal found other =
    ap (λ a. is_sent m past && (is_metadata_ended m past && a)) (all-agree (λ (t : Sent). is_settled m t.stream.0 (Late g x ∷ past)) (λ t. is_settled m t.stream.0 past) (targets_of m past)
    (λ t. settled-signalled g x past m t.stream.0 ∙ ap (λ h. h || is_settled m t.stream.0 past) (not-its script past g.0 n s b f m t.stream.0 legal found other)))

pub done-signalled : (script : Script) (past : List Entry) (g : DeviceFenceNo) (x : List ℕ) → IsLegal script (Late g x ∷ past) → done_since_begin script (Late g x ∷ past) ≡ one_if (finishes script past (Late g x)) + done_since_begin script past
done-signalled script past g x legal =
    let is = late-is script past g x legal.0 in
    by-found script past g x is.0 is.1 is.2 is.3 legal is.4 (find (is_early_with g.0) past) refl
  where
    by-found : (script : Script) (past : List Entry) (g : DeviceFenceNo) (x : List ℕ) (n : FrameNo) (s : StreamIx) (b : BufferId) (f : DeviceFenceNo) → IsLegal script (Late g x ∷ past) → find (is_early_with g.0) past ≡ Some (Early n s b f) → (o : Option Entry) → find (is_early_with g.0) past ≡ o → done_since_begin script (Late g x ∷ past) ≡ one_if (ends_early script past (Late g x) (find (is_early_with g.0) past)) + done_since_begin script past
    by-found script past g x n s b f legal found o at =
        let one = one-finished script past (Late g x) n.0 legal refl (λ m other. done-late script past g x n s b f m legal.1 found other) in
        rw found one
