-- An open frame is stopped exactly where the service is stopping: a flush is answered once no frame is open, and a service that
-- is closed or isn't configured has none.
use Rattle.std.proofs.Common.{◌≡◌, ℕ, ◌==◌, Bool, true, false, ◌&&◌, ◌||◌, not, List, [], ◌∷◌, ◌++◌, Option, Some, None, refl, sym, ap, ◌∙◌, inl, inr, filter, is_some, slice_get, if◌then◌else◌}
use Rattle.std.proofs.lemmas.List.{append-nil}
use Rattle.std.specs.List.{list_all, list_any}
use Rattle.std.proofs.lemmas.Bool.{and_parts, cases_Bool, false≢true, or_right}
use Rattle.cam_types.specs.Four.{four_list}
use Rattle.cam_types.specs.Refusals.{refused}
use Rattle.cam_types.specs.declared.reply.Made.{Made}
use Rattle.cam_types.specs.declared.reply.Reply.{Reply}
use Rattle.cam_types.specs.declared.reply.Reply.TheVariants.{Ok as Accepted}
use Rattle.cam_types.specs.declared.request.Queued.{Queued}
use Rattle.cam_types.specs.declared.request.WaitingItem.{WaitingItem}
use Rattle.cam_types.specs.declared.script.Command.{Command}
use Rattle.cam_types.specs.declared.script.Command.TheVariants.{Flush, Close, Disconnect}
use Rattle.cam_types.specs.declared.script.Script.{Script}
use Rattle.cam_types.specs.declared.script.Word.{Word}
use Rattle.cam_types.specs.declared.script.Word.TheVariants.{Close as WordClose, Disconnect as WordDisconnect}
use Rattle.trace_model.specs.declared.entry.Entry.{Entry}
use Rattle.trace_model.specs.declared.entry.Entry.TheVariants.{Begin, Call, Send, Dropped, ErrorDevice}
use Rattle.trace_model.specs.declared.entry.Sent.{Sent}
use Rattle.trace_model.specs.Calls.{begun, is_closed, is_closing_word, is_waiting_command, next_command, word_of}
use Rattle.trace_model.specs.Client.{call_due, call_of, is_idle, is_over, is_empty, may_answer}
use Rattle.trace_model.specs.Configuration.{buffers_of, configures, is_configured, made, numbers_of}
use Rattle.trace_model.specs.Drop.{drop_of}
use Rattle.trace_model.specs.Entry.{is_refusal, is_stop_word}
use Rattle.trace_model.specs.Fence.{fence_of, is_same_fence}
use Rattle.trace_model.specs.Frames.{is_sent}
use Rattle.trace_model.specs.Legal.{IsLegal}
use Rattle.trace_model.specs.Numbers.{call_count}
use Rattle.trace_model.specs.Open.{is_open, is_quiet}
use Rattle.trace_model.specs.Place.{Pool, is_at, place}
use Rattle.trace_model.specs.Queue.{first_in, is_taken, next, puts, queued, repeating, submitted}
use Rattle.trace_model.specs.Reply.{reply}
use Rattle.trace_model.specs.Send.{fits_next, takes_from_pool}
use Rattle.trace_model.specs.Stopping.{has_failed, is_stopped, is_stopping, stops_by}
use Rattle.trace_model.proofs.LawLemmas.{sends-from-pool}
use Rattle.basic_lemmas.proofs.Lists.{any-behind}
use Rattle.run_model.proofs.Entries.{open-sent}
use Rattle.state_facts.proofs.Awaited.{begun-word, begins_first}
use Rattle.state_facts.proofs.Stopped.{stopping-stops}
use Rattle.state_facts.proofs.Targets.{has_some, sent-targets}
use Rattle.trace_laws.proofs.Done.{closed-stays}
use Rattle.trace_laws.proofs.Told.{not-stopped}
use Rattle.state_facts.proofs.Rest.{none_waits}
use Rattle.basic_lemmas.proofs.Tests.{own-number}
use Rattle.state_facts.proofs.Made.{no-made}
use Rattle.state_facts.proofs.Quiet.{quiet-stays}
pub use Rattle.state_facts.proofs.Quiet.{quiet-closed}

-- ---- a call that is due

pub record CallIs (script : Script) (past : List Entry) (w : Word) (r : Reply) : Type 0 where
  pub command : Command
  pub next : next_command script past ≡ Some command
  pub may : may_answer script past command ≡ true
  pub word : word_of command ≡ w
  pub reply_is : reply script past command ≡ r

call-by : (script : Script) (past : List Entry) (o : Option Command) (i : ℕ) (w : Word) (r : Reply) → next_command script past ≡ o → call_of script past o ≡ Some (Call i w r) → CallIs script past w r
call-by script past None i w r at h = absurd (cc)
call-by script past (Some c) i w r at h = by (may_answer script past c) refl h
  where
    parts : (j i : ℕ) (v w : Word) (q r : Reply) → Call j v q ≡ Call i w r → (v ≡ w) × (q ≡ r)
    parts j i v w q r e = (cc, cc)

    by : (b : Bool) → may_answer script past c ≡ b → (if b then Some (Call (call_count past) (word_of c) (reply script past c)) else None) ≡ Some (Call i w r) → CallIs script past w r
    by true may k =
        let same : Call (call_count past) (word_of c) (reply script past c) ≡ Call i w r = cc in
        let both = parts (call_count past) i (word_of c) w (reply script past c) r same in
        record { command = c; next = at; may = may; word = both.0; reply_is = both.1 }
    by false may k = absurd (cc)

pub call-is : (script : Script) (past : List Entry) (i : ℕ) (w : Word) (r : Reply) → call_due script past ≡ Some (Call i w r) → CallIs script past w r
call-is script past i w r h = call-by script past (next_command script past) i w r refl h

-- ---- a service that is closed has nothing to do

pub record HasNothing (script : Script) (past : List Entry) : Type 0 where
  pub quiet : is_quiet past ≡ true
  pub empty : queued script past ≡ []
  pub none : repeating script past ≡ None

-- what a closing command's answer says: all was done
pub answered : (began refused over : Bool) → (began && (refused || over)) ≡ true → refused ≡ false → over ≡ true
answered true true over h k = absurd (false≢true (sym k))
answered true false over h k = h
answered false refused over h k = absurd (false≢true h)

closing-over : (script : Script) (past : List Entry) (c : Command) → is_closing_word (word_of c) ≡ true → is_over script past c ≡ true → is_idle script past ≡ true
closing-over script past Close word over = (and_parts (is_idle script past) _ over).0
closing-over script past Disconnect word over = over
closing-over script past _ word over = absurd (false≢true word)

closing-clears : (script : Script) (past : List Entry) (i : ℕ) (w : Word) (r : Reply) → is_closing_word w ≡ true → is_refusal r ≡ false → repeating script (Call i w r ∷ past) ≡ None
closing-clears script past i WordClose r word taken = rw taken refl
closing-clears script past i WordDisconnect r word taken = rw taken refl
closing-clears script past i _ r word taken = absurd (false≢true word)

-- what puts nothing in leaves the queue
same-queue : (script : Script) (past : List Entry) (xs : List WaitingItem) → xs ≡ [] → filter (λ w. not (is_taken past w)) (submitted script past ++ xs) ≡ queued script past
same-queue script past xs none = ap (λ (ys : List WaitingItem). filter (λ w. not (is_taken past w)) ys) (ap (λ (ys : List WaitingItem). submitted script past ++ ys) none ∙ append-nil (submitted script past))

-- a closed service refuses
closed-refuses : (script : Script) (past : List Entry) (c : Command) → is_closed past ≡ true → reply script past c ≡ refused 2
closed-refuses script past c closed = rw closed refl

-- and one that isn't accepts to be closed
closing-reply : (script : Script) (past : List Entry) (c : Command) → is_closed past ≡ false → is_closing_word (word_of c) ≡ true → reply script past c ≡ Accepted
closing-reply script past Close open_ word = rw open_ refl
closing-reply script past Disconnect open_ word = rw open_ refl
closing-reply script past _ open_ word = absurd (false≢true word)

next-none : (script : Script) (past : List Entry) → HasNothing script past → next script past ≡ None
next-none script past has = rw (has.empty, has.none) refl

none-puts : (script : Script) (i : ℕ) (w : Word) (r q : Reply) → r ≡ q → puts script (Call i w q) ≡ [] → puts script (Call i w r) ≡ []
none-puts script i w r q at h = ap (λ (x : Reply). puts script (Call i w x)) at ∙ h

pub closed-nothing : (script : Script) (past : List Entry) → IsLegal script past → is_closed past ≡ true → HasNothing script past
closed-nothing script [] legal closed = absurd (false≢true closed)
closed-nothing script (Call i w r ∷ past) legal closed =
    let call = call-is script past i w r legal.0 in
    elim (cases_Bool (is_closed past)) [
      | inl before ↦ (
          let has = closed-nothing script past legal.1 before in
          let is : r ≡ refused 2 = sym call.reply_is ∙ closed-refuses script past call.command before in
          let taken : is_refusal r ≡ true = ap is_refusal is in
          record {
            quiet = quiet-stays script past (Call i w r) legal has.quiet;
            empty = same-queue script past (puts script (Call i w r)) (none-puts script i w r (refused 2) is refl) ∙ has.empty;
            none = rw taken has.none;
          }
          )
      | inr open_ ↦ (
          let accepted = rw open_ at closed in
          let parts = and_parts (not (is_refusal r)) (is_closing_word w) (alone (not (is_refusal r) && is_closing_word w) accepted) in
          let word : is_closing_word (word_of call.command) ≡ true = ap is_closing_word call.word ∙ parts.1 in
          let is : r ≡ Accepted = sym call.reply_is ∙ closing-reply script past call.command open_ word in
          let taken : is_refusal r ≡ false = ap is_refusal is in
          let over = answered (not (is_waiting_command call.command) || is_some (begun past)) (is_refusal (reply script past call.command)) (is_over script past call.command) call.may (ap is_refusal call.reply_is ∙ taken) in
          let idle = and_parts (is_quiet past) (is_empty (queued script past)) (closing-over script past call.command word over) in
          record {
            quiet = quiet-stays script past (Call i w r) legal idle.0;
            empty = same-queue script past (puts script (Call i w r)) (none-puts script i w r Accepted is refl) ∙ none_waits (queued script past) idle.1;
            none = closing-clears script past i w r parts.1 taken;
          }
          )
    ]
  where
    alone : (a : Bool) → (a || false) ≡ true → a ≡ true
    alone true h = refl
    alone false h = absurd (false≢true h)
closed-nothing script (Send n r i same targets ∷ past) legal closed =
    let has = closed-nothing script past legal.1 closed in
    let none : fits_next script past None n.0 r.0 i same targets ≡ true = ap (λ (o : Option Queued). fits_next script past o n.0 r.0 i same targets) (sym (next-none script past has)) ∙ legal.0 in
    absurd (false≢true none)
closed-nothing script (Dropped n r i ∷ past) legal closed =
    let has = closed-nothing script past legal.1 closed in
    let none = ap (λ (xs : List WaitingItem). if is_stopping past then drop_of past (first_in xs) else None) (sym has.empty) ∙ legal.0 in
    absurd (drop-none (is_stopping past) past (Dropped n r i) none)
  where
    drop-none : (b : Bool) (past : List Entry) (e : Entry) → (if b then drop_of past (first_in []) else None) ≡ Some e → ⊥
    drop-none true past e h = cc
    drop-none false past e h = cc
closed-nothing script (e ∷ past) legal closed =
    let has = closed-nothing script past legal.1 closed in
    record {
      quiet = quiet-stays script past e legal has.quiet;
      empty = same-queue script past [] refl ∙ has.empty;
      none = has.none;
    }

-- ---- a frame is sent to a service that is configured

none-taken : (past : List Entry) (ts : List Sent) → made past ≡ [] → has_some ts ≡ true → list_all (takes_from_pool past) ts ≡ true → ⊥
none-taken past [] none some all = false≢true some
none-taken past (t ∷ ts) none some all =
    let first = (and_parts (takes_from_pool past t) (list_all (takes_from_pool past) ts) all).0 in
    let own = (and_parts (list_any (λ b. b == t.buffer.0) (buffers_of past t.stream.0)) (is_at (place t.buffer.0 past) Pool && is_same_fence t.fence (fence_of t.buffer.0 past)) first).0 in
    let own' = ap (λ (ms : List Made). list_any (λ b. b == t.buffer.0) (numbers_of (slice_get ms t.stream.0))) (sym none) ∙ own in
    false≢true own'

pub sent-configured : (script : Script) (past : List Entry) (n : ℕ) → IsLegal script past → is_sent n past ≡ true → is_configured past ≡ true
sent-configured script [] n legal sent = absurd (false≢true sent)
sent-configured script (Send m r i same targets ∷ past) n legal sent = elim (cases_Bool (is_configured past)) [
  | inl yes' ↦ yes'
  | inr no' ↦ (
      let own = own-number m.0 in
      let sent' : is_sent m.0 (Send m r i same targets ∷ past) ≡ true = rw own refl in
      let some' = sent-targets script (Send m r i same targets ∷ past) m.0 legal sent' in
      let some : has_some (four_list targets) ≡ true = rw own at some' in
      absurd (none-taken past (four_list targets) (no-made past no') some (sends-from-pool script past m.0 r.0 i same targets legal.0))
      )
]
sent-configured script (e ∷ past) n legal sent = any-behind configures e past (sent-configured script past n legal.1 sent)

-- ---- a flush or a disconnect is answered once no frame is open

stop-taken : (script : Script) (past : List Entry) (c : Command) → is_stop_word (word_of c) ≡ true → is_closed past ≡ false → has_failed past ≡ false → is_configured past ≡ true → is_refusal (reply script past c) ≡ false
stop-taken script past Flush word open_ sound set = rw (open_, sound, set) refl
stop-taken script past Disconnect word open_ sound set = rw open_ refl
stop-taken script past _ word open_ sound set = absurd (false≢true word)

stop-over : (script : Script) (past : List Entry) (c : Command) → is_stop_word (word_of c) ≡ true → is_over script past c ≡ true → is_quiet past ≡ true
stop-over script past Flush word over = (and_parts (is_quiet past) (is_empty (queued script past)) over).0
stop-over script past Disconnect word over = (and_parts (is_quiet past) (is_empty (queued script past)) over).0
stop-over script past _ word over = absurd (false≢true word)

call-quiet : (script : Script) (past : List Entry) (i : ℕ) (w : Word) (r : Reply) (n : ℕ) (o : Option Word) → IsLegal script past → call_due script past ≡ Some (Call i w r) → begun past ≡ o → stops_by o ≡ true → has_failed past ≡ false → is_open n past ≡ true → ⊥
call-quiet script past i w r n None legal due at stops sound open_ = false≢true stops
call-quiet script past i w r n (Some v) legal due at stops sound open_ =
    let call = call-is script past i w r due in
    let word : is_stop_word (word_of call.command) ≡ true = ap is_stop_word (sym (begun-word script past v call.command legal at call.next)) ∙ stops in
    let unclosed : is_closed past ≡ false = elim (cases_Bool (is_closed past)) [
      | inl closed ↦ absurd (quiet-closed past n (closed-nothing script past legal closed).quiet open_)
      | inr no' ↦ no'
    ] in
    let taken = stop-taken script past call.command word unclosed sound (sent-configured script past n legal (open-sent n past open_)) in
    let over = answered (not (is_waiting_command call.command) || is_some (begun past)) (is_refusal (reply script past call.command)) (is_over script past call.command) call.may taken in
    quiet-closed past n (stop-over script past call.command word over) open_

-- ---- so an open frame that is stopped is stopped now

stopped-sent : (past : List Entry) (n : ℕ) → is_stopped n past ≡ true → is_sent n past ≡ true
stopped-sent past n h = elim (cases_Bool (is_sent n past)) [
  | inl sent ↦ sent
  | inr unsent ↦ absurd (false≢true (sym (not-stopped n past unsent) ∙ h))
]

pub open-before : (script : Script) (past : List Entry) (e : Entry) (n : ℕ) → IsLegal script (e ∷ past) → is_sent n past ≡ true → is_open n (e ∷ past) ≡ true → is_open n past ≡ true
open-before script past e n legal sent open_ = elim (cases_Bool (is_open n past)) [
  | inl before ↦ before
  | inr closed ↦ absurd (false≢true (sym (closed-stays script past e n legal sent closed) ∙ open_))
]

stopped-now : (script : Script) (past : List Entry) (n : ℕ) → IsLegal script past → is_open n past ≡ true → is_stopped n past ≡ true → is_stopping past ≡ true
stopped-now script [] n legal open_ stopped = absurd (false≢true stopped)
stopped-now script (Begin w ∷ past) n legal open_ stopped = elim (cases_Bool (is_stop_word w)) [
  | inl here ↦ rw here refl
  | inr other ↦ (
      let stopped' : is_stopped n past ≡ true = rw other at stopped in
      let ih = stopped-now script past n legal.1 (open-before script past (Begin w) n legal (stopped-sent past n stopped') open_) stopped' in
      let failed : has_failed past ≡ true = ap (λ (o : Option Word). stops_by o || has_failed past) (sym (begins_first past (next_command script past) w legal.0)) ∙ ih in
      or_right (is_stop_word w) (has_failed past) failed
      )
]
stopped-now script (Call i w r ∷ past) n legal open_ stopped =
    let before = open-before script past (Call i w r) n legal (stopped-sent past n stopped) open_ in
    let ih = stopped-now script past n legal.1 before stopped in
    elim (cases_Bool (has_failed past)) [
      | inl failed ↦ failed
      | inr sound ↦ (
          let stops : stops_by (begun past) ≡ true = alone (stops_by (begun past)) (has_failed past) sound ih in
          absurd (call-quiet script past i w r n (begun past) legal.1 legal.0 refl stops sound before)
          )
    ]
  where
    alone : (a b : Bool) → b ≡ false → (a || b) ≡ true → a ≡ true
    alone true b h k = refl
    alone false b h k = absurd (false≢true (sym h ∙ k))
stopped-now script (ErrorDevice ∷ past) n legal open_ stopped = or_right (stops_by (begun past)) true refl
stopped-now script (e ∷ past) n legal open_ stopped =
    stopped-now script past n legal.1 (open-before script past e n legal (stopped-sent past n stopped) open_) stopped

-- an open frame is stopped exactly where the service is stopping
pub open-stopped : (script : Script) (past : List Entry) (n : ℕ) → IsLegal script past → is_open n past ≡ true → is_stopped n past ≡ is_stopping past
open-stopped script past n legal open_ =
    both (is_stopped n past) (is_stopping past) (stopped-now script past n legal open_) (stopping-stops script past n legal (open-sent n past open_))
  where
    both : (a b : Bool) → (a ≡ true → b ≡ true) → (b ≡ true → a ≡ true) → a ≡ b
    both true b h k = sym (h refl)
    both false true h k = k refl
    both false false h k = refl
