-- The streams of an open frame's targets are among those of the configuration, which stands until no frame is open.
use Rattle.std.proofs.Common.{◌≡◌, ℕ, ◌==◌, Bool, true, ◌&&◌, ◌||◌, not, List, [], ◌∷◌, Option, Some, None, refl, sym, ap, ◌∙◌, inl, inr, find, is_some, slice_get}
use Rattle.std.specs.List.{list_all}
use Rattle.std.proofs.lemmas.Bool.{and_parts, cases_Bool, eqb-true, false≢true}
use Rattle.cam_types.specs.Four.{four_list}
use Rattle.cam_types.specs.declared.four.Four.{Four}
use Rattle.cam_types.specs.declared.reply.Made.{Made}
use Rattle.cam_types.specs.declared.reply.Reply.{Reply}
use Rattle.cam_types.specs.declared.reply.Reply.TheVariants.{Configured, Refused, Ok as Accepted, Submitted}
use Rattle.cam_types.specs.declared.request.Queued.{Queued}
use Rattle.cam_types.specs.declared.script.Command.{Command}
use Rattle.cam_types.specs.declared.script.Command.TheVariants.{Configure}
use Rattle.cam_types.specs.declared.script.Script.{Script}
use Rattle.cam_types.specs.declared.script.Word.{Word}
use Rattle.cam_types.specs.declared.stream.StreamSpec.{StreamSpec}
use Rattle.trace_model.specs.declared.entry.Entry.{Entry}
use Rattle.trace_model.specs.declared.entry.Entry.TheVariants.{Call, Send}
use Rattle.trace_model.specs.declared.entry.Sent.{Sent}
use Rattle.trace_model.specs.Calls.{begun, is_waiting_command}
use Rattle.trace_model.specs.Client.{is_idle, is_empty, is_over}
use Rattle.trace_model.specs.Configuration.{buffers_of, streams}
use Rattle.trace_model.specs.Entry.{is_refusal}
use Rattle.trace_model.specs.Frames.{is_sent, targets_of}
use Rattle.trace_model.specs.Legal.{IsLegal}
use Rattle.trace_model.specs.Open.{is_open, is_quiet}
use Rattle.trace_model.specs.Place.{all_in_pool}
use Rattle.trace_model.specs.Queue.{next, queued, repeating}
use Rattle.trace_model.specs.Reply.{acceptance, reply, reply_with, refusal}
use Rattle.trace_model.specs.Send.{are_streams, fits_next, targets_in_order}
use Rattle.trace_model.proofs.LawLemmas.{goes}
use Rattle.trace_laws.proofs.Refusals.{refuses, refusal-refuses}
use Rattle.state_facts.proofs.Served.{offered, serves, some_of}
use Rattle.state_facts.proofs.Targets.{next_by}
use Rattle.run_model.proofs.Entries.{open-sent}
use Rattle.run_rows.proofs.Stopped.{answered, call-is, open-before}
use Rattle.state_facts.proofs.Quiet.{quiet-closed}

-- the stream is one of the configuration's
abbrev pub is_offered : Script → List Entry → Sent → Bool
is_offered script past t = is_some (slice_get (streams script past) t.stream.0)

-- ---- as the frame is sent

serves-some : (script : Script) (past : List Entry) (s : ℕ) → serves script past s ≡ true → is_some (slice_get (streams script past) s) ≡ true
serves-some script past s h = by (slice_get (streams script past) s) (some_of (buffers_of past s)) h
  where
    by : (o : Option StreamSpec) (b : Bool) → (offered o && b) ≡ true → is_some o ≡ true
    by (Some spec) b h = refl
    by None b h = absurd (false≢true h)

targets-offered : (script : Script) (past : List Entry) (ts : List Sent) (xs : List ℕ) → are_streams ts xs ≡ true → list_all (serves script past) xs ≡ true → list_all (is_offered script past) ts ≡ true
targets-offered script past [] xs same all = refl
targets-offered script past (t ∷ ts) [] same all = absurd (false≢true same)
targets-offered script past (t ∷ ts) (x ∷ xs) same all =
    let both = and_parts (t.stream.0 == x) (are_streams ts xs) same in
    let parts = and_parts (serves script past x) (list_all (serves script past) xs) all in
    let one : is_offered script past t ≡ true = ap (λ (i : ℕ). is_some (slice_get (streams script past) i)) (eqb-true t.stream.0 x both.0) ∙ serves-some script past x parts.0 in
    rw (one, targets-offered script past ts xs both.1 parts.1) refl

sent-offered : (script : Script) (past : List Entry) (o : Option Queued) (n r i : ℕ) (same : Bool) (targets : Four Sent) → IsLegal script past → next script past ≡ o → fits_next script past o n r i same targets ≡ true → list_all (is_offered script past) (four_list targets) ≡ true
sent-offered script past None n r i same targets legal at h = absurd (false≢true h)
sent-offered script past (Some w) n r i same targets legal at h =
    let served = next_by script past (queued script past) (repeating script past) w legal refl refl at in
    let parts = and_parts (list_all (serves script past) (targets_in_order w.item)) (some_of (targets_in_order w.item)) served in
    targets-offered script past (four_list targets) (targets_in_order w.item) (goes script past w n r i same targets h).streams parts.0

-- ---- a configuration is made once no frame is open

pub configure-by : (script : Script) (past : List Entry) (c : Command) (o : Option Reply) (each : Four Made) → refuses o ≡ true → reply_with o (acceptance script past c) ≡ Configured each → is_over script past c ≡ true → is_quiet past ≡ true
configure-by script past c (Some (Refused code a b)) each refused at over = absurd (cc)
configure-by script past c (Some Accepted) each refused at over = absurd (false≢true refused)
configure-by script past c (Some (Submitted r)) each refused at over = absurd (false≢true refused)
configure-by script past c (Some (Configured m)) each refused at over = absurd (false≢true refused)
configure-by script past (Configure specs) None each refused at over = (and_parts (is_quiet past) (is_empty (queued script past)) (and_parts (is_idle script past) (all_in_pool past) over).0).0
configure-by script past c None each refused at over = absurd (cc)

pub configure-quiet : (script : Script) (past : List Entry) (i : ℕ) (w : Word) (each : Four Made) → IsLegal script (Call i w (Configured each) ∷ past) → is_quiet past ≡ true
configure-quiet script past i w each legal =
    let call = call-is script past i w (Configured each) legal.0 in
    let over = answered (not (is_waiting_command call.command) || is_some (begun past)) (is_refusal (reply script past call.command)) (is_over script past call.command) call.may (ap is_refusal call.reply_is) in
    configure-by script past call.command (refusal script past call.command) each (refusal-refuses script past call.command) call.reply_is over

-- ---- so it stands for each open frame

pub open-offered : (script : Script) (past : List Entry) (n : ℕ) → IsLegal script past → is_open n past ≡ true → list_all (is_offered script past) (targets_of n past) ≡ true
open-offered script [] n legal open_ = absurd (false≢true open_)
open-offered script (Send m r i same targets ∷ past) n legal open_ = elim (cases_Bool (m.0 == n)) [
  | inl here ↦ rw here (sent-offered script past (next script past) m.0 r.0 i same targets legal.1 refl legal.0)
  | inr other ↦ (
      let sent = open-sent n (Send m r i same targets ∷ past) open_ in
      let sent' : is_sent n past ≡ true = rw other at sent in
      rw other (open-offered script past n legal.1 (open-before script past (Send m r i same targets) n legal sent' open_))
      )
]
open-offered script (Call i w (Configured each) ∷ past) n legal open_ =
    let sent = open-sent n (Call i w (Configured each) ∷ past) open_ in
    absurd (quiet-closed past n (configure-quiet script past i w each legal) (open-before script past (Call i w (Configured each)) n legal sent open_))
open-offered script (e ∷ past) n legal open_ =
    let sent = open-sent n (e ∷ past) open_ in
    open-offered script past n legal.1 (open-before script past e n legal sent open_)

-- the stream of a target that is found
pub found-offered : (script : Script) (past : List Entry) (n s : ℕ) (t : Sent) → IsLegal script past → is_open n past ≡ true → find (λ u. u.stream.0 == s) (targets_of n past) ≡ Some t → is_some (slice_get (streams script past) s) ≡ true
found-offered script past n s t legal open_ at = by (targets_of n past) (open-offered script past n legal open_) at
  where
    by : (ts : List Sent) → list_all (is_offered script past) ts ≡ true → find (λ u. u.stream.0 == s) ts ≡ Some t → is_some (slice_get (streams script past) s) ≡ true
    by [] all at = absurd (cc)
    by (u ∷ ts) all at =
        let parts = and_parts (is_offered script past u) (list_all (is_offered script past) ts) all in
        elim (cases_Bool (u.stream.0 == s)) [
          | inl here ↦ ap (λ (i : ℕ). is_some (slice_get (streams script past) i)) (sym (eqb-true u.stream.0 s here)) ∙ parts.0
          | inr other ↦ (let at' = rw other at at in by ts parts.1 at')
        ]
