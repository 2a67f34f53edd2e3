-- The item of a sent frame stays the same, and whether it repeats: its request was accepted, and the next request has another number.
use Rattle.std.proofs.Common.{◌≡◌, ℕ, ◌==◌, ◌<◌, Bool, true, false, not, List, [], ◌∷◌, Option, Some, refl, arith, inl, inr, nat_lt}
use Rattle.std.proofs.lemmas.Bool.{and_parts, cases_Bool, cases_lt, eqb-true, false≢true, ltb-true, ne_eqb}
use Rattle.cam_types.specs.declared.four.Four.{Four}
use Rattle.cam_types.specs.declared.number.FrameNo.{FrameNo}
use Rattle.cam_types.specs.declared.number.RequestId.{RequestId}
use Rattle.cam_types.specs.declared.reply.Reply.TheVariants.{Submitted}
use Rattle.cam_types.specs.declared.script.Script.{Script}
use Rattle.trace_model.specs.declared.entry.Entry.{Entry}
use Rattle.trace_model.specs.declared.entry.Entry.TheVariants.{Call, Send}
use Rattle.trace_model.specs.declared.entry.Sent.{Sent}
use Rattle.trace_model.specs.Allowed.{IsAllowed}
use Rattle.trace_model.specs.Calls.{command_of, is_repeating, is_submission, request_count}
use Rattle.trace_model.specs.Entry.{sends}
use Rattle.trace_model.specs.Frames.{is_repeating_frame, is_sent, item_in, repeats_in, send_of, settings_of}
use Rattle.trace_model.specs.Legal.{IsLegal}
use Rattle.trace_model.specs.Queue.{is_taken, queued, submitted}
use Rattle.cam_types.specs.declared.request.WaitingItem.{WaitingItem}
use Rattle.trace_model.specs.Send.{may_send}
use Rattle.trace_laws.proofs.FrameLemmas.{send-of, takes_it}
use Rattle.trace_laws.proofs.Printed.{one-of-all}
use Rattle.trace_laws.proofs.Submitted.{is_settled, not-accepted, request-number, settled}
use Rattle.basic_lemmas.proofs.Lists.{all-filtered}
use Rattle.basic_lemmas.proofs.Counts.{count-cons}

queued_accepted : (script : Script) (past : List Entry) (n : FrameNo) (r : RequestId) (i : ℕ) (same : Bool) (targets : Four Sent) (w : WaitingItem) → is_settled script past w ≡ true → takes_it (Send n r i same targets) w ≡ true → r.0 < request_count past
queued_accepted script past n r i same targets w h taken =
    let less = ltb-true w.request.0 (request_count past) (and_parts (nat_lt w.request.0 (request_count past)) (not (is_repeating script past w.request.0)) h).0 in
    let at = eqb-true r.0 w.request.0 (and_parts (r.0 == w.request.0) (i == w.index) taken).0 in
    omega (arith, less, at)

-- a request that repeats was accepted
list-name : (script : Script) (past : List Entry) (r : ℕ) → IsLegal script past → is_repeating script past r ≡ true → r < request_count past
list-name script past r legal repeats = elim (cases_lt r (request_count past)) [
  | inl less ↦ less
  | inr above ↦ (let none = not-accepted script past r legal above in let wrong = rw none at repeats in absurd (false≢true wrong))
]

-- a send is for an accepted request
pub send-accepted : (script : Script) (past : List Entry) (n : FrameNo) (r : RequestId) (i : ℕ) (same : Bool) (targets : Four Sent) → IsLegal script past → may_send script past n.0 r.0 i same targets ≡ true → r.0 < request_count past
send-accepted script past n r i same targets legal may =
    elim (send-of script past n r i same targets legal may) [
      | inl queue ↦ one-of-all (r.0 < request_count past) (is_settled script past) (takes_it (Send n r i same targets)) (queued script past) (λ w h taken. queued_accepted script past n r i same targets w h taken) (all-filtered (is_settled script past) (λ w. not (is_taken past w)) (submitted script past) (settled script past legal)) queue.1
      | inr list ↦ list-name script past r.0 legal list.1
    ]

abbrev pub request_in : Option Entry → ℕ
request_in (Some (Send _ r _ _ _)) = r.0
request_in _ = 0

pub frame-accepted : (script : Script) (past : List Entry) (n : ℕ) → IsLegal script past → is_sent n past ≡ true → request_in (send_of n past) < request_count past
frame-accepted script [] n legal sent = absurd (false≢true sent)
frame-accepted script (Send m r i same targets ∷ past) n legal sent =
    let more = count-cons is_submission (Send m r i same targets) past in
    elim (cases_Bool (m.0 == n)) [
      | inl here ↦ (let less = send-accepted script past m r i same targets legal.1 legal.0 in rw here (omega (arith, less, more)))
      | inr other ↦ (let sent' = rw other at sent in let ih = frame-accepted script past n legal.1 sent' in rw other (omega (arith, ih, more)))
    ]
frame-accepted script (e ∷ past) n legal sent =
    let more = count-cons is_submission e past in
    let ih = frame-accepted script past n legal.1 sent in
    omega (arith, ih, more)

pub command_kept : (script : Script) (past : List Entry) (e : Entry) (r : ℕ) → IsAllowed script past e → r < request_count past → command_of script (e ∷ past) r ≡ command_of script past r
command_kept script past (Call i w (Submitted q)) r may less =
    let number = request-number script past i w q may in
    let other : (q.0 == r) ≡ false = ne_eqb q.0 r (λ at. absurd (omega (arith, number, less, at))) in
    rw other refl
command_kept script past _ r may less = refl

pub item_kept : (script : Script) (past : List Entry) (e : Entry) (o : Option Entry) → IsAllowed script past e → request_in o < request_count past → item_in script (e ∷ past) o ≡ item_in script past o
item_kept script past e (Some (Send n r i same targets)) may less = rw (command_kept script past e r.0 may less) refl
item_kept script past e _ may less = refl

-- a sent frame keeps its settings
pub settings-kept : (script : Script) (past : List Entry) (e : Entry) (n : ℕ) → IsLegal script (e ∷ past) → is_sent n past ≡ true → sends n e ≡ false → settings_of script (e ∷ past) n ≡ settings_of script past n
settings-kept script past e n legal sent other =
    rw (other, item_kept script past e (send_of n past) legal.0 (frame-accepted script past n legal.1 sent)) refl

-- and stays one of a repeating request, or of none
repeats_kept : (script : Script) (past : List Entry) (e : Entry) (o : Option Entry) → IsAllowed script past e → request_in o < request_count past → repeats_in script (e ∷ past) o ≡ repeats_in script past o
repeats_kept script past e (Some (Send n r i same targets)) may less = rw (command_kept script past e r.0 may less) refl
repeats_kept script past e _ may less = refl

pub repeating-kept : (script : Script) (past : List Entry) (e : Entry) (n : ℕ) → IsLegal script (e ∷ past) → is_sent n past ≡ true → sends n e ≡ false → is_repeating_frame script (e ∷ past) n ≡ is_repeating_frame script past n
repeating-kept script past e n legal sent other = rw (other, repeats_kept script past e (send_of n past) legal.0 (frame-accepted script past n legal.1 sent)) refl
