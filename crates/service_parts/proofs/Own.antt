-- The buffer of an open frame's target is one of its stream's: no configuration is made while a frame is open.
use Rattle.std.proofs.Common.{◌≡◌, ℕ, ◌==◌, true, ◌&&◌, List, [], ◌∷◌, Option, Some, None, sym, ap, ◌∙◌, inl, inr, find}
use Rattle.std.specs.List.{list_all, list_any}
use Rattle.std.proofs.lemmas.Bool.{and_parts, cases_Bool, eqb-true, false≢true}
use Rattle.cam_types.specs.Four.{four_list}
use Rattle.cam_types.specs.declared.reply.Made.{Made}
use Rattle.cam_types.specs.declared.reply.Reply.TheVariants.{Configured}
use Rattle.cam_types.specs.declared.script.Script.{Script}
use Rattle.trace_model.specs.declared.entry.Entry.{Entry}
use Rattle.trace_model.specs.declared.entry.Entry.TheVariants.{Call, Send}
use Rattle.trace_model.specs.declared.entry.Sent.{Sent}
use Rattle.trace_model.specs.Configuration.{buffers_of, numbers_of}
use Rattle.trace_model.specs.Fence.{fence_of, is_same_fence}
use Rattle.trace_model.specs.Frames.{is_sent, target_of}
use Rattle.trace_model.specs.Legal.{IsLegal}
use Rattle.trace_model.specs.Open.{is_open}
use Rattle.trace_model.specs.Place.{Pool, is_at, place}
use Rattle.trace_model.specs.Send.{takes_from_pool}
use Rattle.trace_model.proofs.LawLemmas.{sends-from-pool}
use Rattle.trace_laws.proofs.StreamLemmas.{IsOwn}
use Rattle.basic_lemmas.proofs.Ranges.{in-range}
use Rattle.run_model.proofs.Entries.{open-sent}
use Rattle.run_rows.proofs.Stopped.{open-before, quiet-closed}
use Rattle.service_parts.specs.Facts.{is_of}
use Rattle.service_parts.proofs.AtRest.{configured_quiet}
use Rattle.trace_laws.proofs.Own.{made_by_range}
use Rattle.basic_lemmas.proofs.Lists.{found-passes, all-found}

-- ---- the numbers of what was made for a stream

pub own_made : (o : Option Made) (b : ℕ) → list_any (λ c. c == b) (numbers_of o) ≡ true → is_of o b ≡ true
own_made (Some m) b h = made_by_range m b (in-range m.first.0 m.count b h)
own_made None b h = absurd (false≢true h)

-- ---- as the frame is sent

taken-own : (past : List Entry) (s : ℕ) (t : Sent) → takes_from_pool past t ≡ true → t.stream.0 ≡ s → IsOwn past s t.buffer.0
taken-own past s t takes at =
    ap (λ (i : ℕ). list_any (λ c. c == t.buffer.0) (buffers_of past i)) (sym at)
    ∙ (and_parts (list_any (λ c. c == t.buffer.0) (buffers_of past t.stream.0)) (is_at (place t.buffer.0 past) Pool && is_same_fence t.fence (fence_of t.buffer.0 past)) takes).0

sent-own : (past : List Entry) (s : ℕ) (targets : List Sent) (t : Sent) → list_all (takes_from_pool past) targets ≡ true → find (λ u. u.stream.0 == s) targets ≡ Some t → IsOwn past s t.buffer.0
sent-own past s targets t all at =
    taken-own past s t (all-found (takes_from_pool past) (λ u. u.stream.0 == s) targets t all at)
    (eqb-true t.stream.0 s (found-passes {X = Sent} (λ u. u.stream.0 == s) targets t at))

-- ---- while the frame is open

pub open_own : (script : Script) (past : List Entry) (n s : ℕ) (t : Sent) → IsLegal script past → is_open n past ≡ true → target_of n s past ≡ Some t → IsOwn past s t.buffer.0
open_own script [] n s t legal open_ at = absurd (false≢true open_)
open_own script (Send m r i same targets ∷ past) n s t legal open_ at = elim (cases_Bool (m.0 == n)) [
  | inl here ↦ (let at' = rw here at at in sent-own past s (four_list targets) t (sends-from-pool script past m.0 r.0 i same targets legal.0) at')
  | inr other ↦ (
      let at' = rw other at at in
      let sent = open-sent n (Send m r i same targets ∷ past) open_ in
      let sent' : is_sent n past ≡ true = rw other at sent in
      open_own script past n s t legal.1 (open-before script past (Send m r i same targets) n legal sent' open_) at'
      )
]
open_own script (Call i w (Configured each) ∷ past) n s t legal open_ at =
    let sent = open-sent n (Call i w (Configured each) ∷ past) open_ in
    absurd (quiet-closed past n (configured_quiet script past i w each legal) (open-before script past (Call i w (Configured each)) n legal sent open_))
open_own script (e ∷ past) n s t legal open_ at =
    let sent = open-sent n (e ∷ past) open_ in
    open_own script past n s t legal.1 (open-before script past e n legal sent open_) at
