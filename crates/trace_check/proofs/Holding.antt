-- What the state of a legal past gives to the tables that hold it.
use Rattle.std.proofs.Common.{◌≡◌, ◌↔◌, ◌∙◌, ◌<◌, ◌≤◌, ◌^◌, ℕ, suc, ◌+◌, ◌==◌, Bool, true, false, ◌&&◌, List, [], ◌∷◌, Option, Some, None, IsTrue, refl, sym, ap, subst, arith, length, map, slice_get, if◌then◌else◌, inl, inr}
use Rattle.std.specs.Prelude.{IsSome}
use Rattle.std.specs.List.{list_all}
use Rattle.std.proofs.lemmas.Bool.{and_parts, cases_Bool, false≢true}
use Rattle.std.proofs.lemmas.Bool.Decides.{nat_tests}
use Rattle.basic_lemmas.proofs.Lists.{all-always, all-filtered, all-mapped}
use Rattle.cam_types.specs.declared.number.BufferId.{BufferId}
use Rattle.cam_types.specs.declared.number.DeviceFenceNo.{DeviceFenceNo}
use Rattle.cam_types.specs.declared.number.FrameNo.{FrameNo}
use Rattle.cam_types.specs.declared.number.RequestId.{RequestId}
use Rattle.cam_types.specs.declared.number.StreamIx.{StreamIx}
use Rattle.cam_types.specs.Metadata.{range_fault}
use Rattle.cam_types.specs.Picture.{is_offered}
use Rattle.cam_types.specs.Script.{is_valid}
use Rattle.cam_types.specs.declared.four.Four.{Four}
use Rattle.cam_types.specs.declared.item.Item.{Item}
use Rattle.cam_types.specs.declared.reply.Reply.{Reply}
use Rattle.cam_types.specs.declared.reply.Reply.TheVariants.{Ok, Submitted, Configured, Refused}
use Rattle.cam_types.specs.declared.request.Queued.{Queued}
use Rattle.cam_types.specs.declared.request.WaitingItem.{WaitingItem}
use Rattle.cam_types.specs.declared.script.Script.{Script}
use Rattle.cam_types.specs.declared.script.Word.{Word}
use Rattle.trace_laws.specs.Typed.{is_typed}
use Rattle.trace_model.specs.declared.entry.Entry.{Entry}
use Rattle.trace_model.specs.declared.entry.Entry.TheVariants.{Begin, Call, Send, Dropped, Shutter, Partial, Filled, Failed, ErrorRequest, ErrorResult, ErrorBuffer, ErrorDevice, Release, Signal, Early, Late}
use Rattle.trace_model.specs.declared.entry.Sent.{Sent}
use Rattle.trace_model.specs.Allowed.{IsAllowed}
use Rattle.trace_model.specs.Configuration.{streams}
use Rattle.trace_model.specs.Frames.{item_of, settings_in, targets_of}
use Rattle.trace_model.specs.Legal.{IsLegal}
use Rattle.trace_model.specs.Open.{early_fences}
use Rattle.trace_model.specs.Queue.{first_in}
use Rattle.state_facts.specs.Turns.{next_of, turns}
use Rattle.state_facts.proofs.BufferReadings.{all_signalled_is, pool_is}
use Rattle.state_facts.specs.Clients.{clients}
use Rattle.state_facts.specs.Replies.{stopping_in}
use Rattle.state_facts.proofs.OpenRows.{quiet_reads}
use Rattle.state_facts.specs.Row.{Row, Target, in_order, is_open_row, open_rows, row_of, target_at}
use Rattle.state_facts.specs.Fits.{NumbersFit}
use Rattle.state_facts.specs.Runs.{MayAdd}
use Rattle.state_facts.specs.States.{State, drop_with, fits_in, state_after, state}
use Rattle.state_facts.proofs.Fits.{numbers_fit}
use Rattle.state_facts.proofs.Runs.{allowed_from, may_add_from}
use Rattle.state_facts.proofs.StateSteps.{noted_is}
use Rattle.trace_laws.proofs.Early.{not-given}
use Rattle.trace_laws.proofs.Once.{out-not-returned}
use Rattle.trace_laws.proofs.Returns.{early-back}
use Rattle.service_parts.proofs.Room.{requests_fit}
use Rattle.service_parts.proofs.Taken.{call_taken}
use Rattle.judge_rows.specs.Views.{are_free, is_free, is_none_given}
use Rattle.judge_rows.specs.Judged.{CanCapture, CanNote, CanTakeAt, Judged, TakesOne}
use Rattle.trace_check.specs.Drawing.{CanDraw, is_drawable}
use Rattle.trace_check.specs.Held.{held, missing_in}
use Rattle.trace_model.specs.Verdict.{first_missing}
use Rattle.trace_check.proofs.Accepted.{answered, few-streams, frame-in-range, streams-offered}

-- ---- pictures

all-from : {X : Type 0} (p : X → Bool) (xs : List X) → ((k : ℕ) (x : X) → slice_get xs k ≡ Some x → p x ≡ true) → list_all p xs ≡ true
all-from p [] each = refl
all-from p (x ∷ xs) each = rw (each 0 x refl) (all-from p xs (λ k y at. each (suc k) y at))

drawable-item : (o : Option Item) → ((item : Item) → o ≡ Some item → range_fault item.settings ≡ None) → is_drawable (settings_in o) ≡ true
drawable-item None h = refl
drawable-item (Some item) h = rw (h item refl) refl

drawable-rows : (script : Script) (past : List Entry) → IsLegal script past → list_all (λ r. is_drawable r.settings) (open_rows script past) ≡ true
drawable-rows script past legal =
    all-filtered (λ (r : Row). is_drawable r.settings) is_open_row (map (row_of script past) (in_order past))
    (all-mapped (λ (r : Row). is_drawable r.settings) (row_of script past) (in_order past)
    ∙ all-always (λ n. is_drawable (settings_in (item_of script past n))) (in_order past) (λ n. drawable-item (item_of script past n) (λ item at. frame-in-range script past legal n item at)))

pub can_draw : (script : Script) (past : List Entry) → IsLegal script past → CanDraw (state script past)
can_draw script past legal = record {
  offered = all-from is_offered (streams script past) (streams-offered script past legal);
  drawable = drawable-rows script past legal;
}

-- ---- the queue

takes-one : (script : Script) (past : List Entry) (i : ℕ) (word : Word) (reply : Reply) → IsLegal script (Call i word reply ∷ past) → TakesOne (turns script past).requests (length script.commands) reply
takes-one script past i word (Submitted r) legal = requests_fit script past i word r legal
takes-one script past i word Ok legal = tt
takes-one script past i word (Configured each) legal = tt
takes-one script past i word (Refused code a b) legal = tt

send-next : (script : Script) (s : State) (o : Option Queued) (n r i : ℕ) (same : Bool) (targets : Four Sent) → fits_in script s o n r i same targets ≡ true → IsSome o × (n ≡ s.queue.numbers)
send-next script s None n r i same targets h = absurd (false≢true h)
send-next script s (Some next) n r i same targets h =
    let named = (and_parts ((n == s.queue.numbers) && ((r == next.request.0) && (i == next.index))) _ h).0 in
    let number = (and_parts (n == s.queue.numbers) ((r == next.request.0) && (i == next.index)) named).0 in
    (refl, grind (arith, nat_tests, number))

drop-named : (numbers : ℕ) (n : FrameNo) (r : RequestId) (i : ℕ) (o : Option WaitingItem) → drop_with numbers o ≡ Some (Dropped n r i) → IsSome o × (n.0 ≡ numbers)
drop-named numbers n r i None h = absurd (cc)
drop-named numbers n r i (Some w) h =
    let same : Dropped (record { 0 = numbers }) w.request w.index ≡ Dropped n r i = cc in
    let frame : record { 0 = numbers } ≡ n = cc in
    (refl, sym (ap (λ (m : FrameNo). m.0) frame))

drop-next : (stopping : Bool) (numbers : ℕ) (n : FrameNo) (r : RequestId) (i : ℕ) (o : Option WaitingItem) → (if stopping then drop_with numbers o else None) ≡ Some (Dropped n r i) → IsSome o × (n.0 ≡ numbers)
drop-next true numbers n r i o h = drop-named numbers n r i o h
drop-next false numbers n r i o h = absurd (cc)

can-capture : (script : Script) (past : List Entry) (e : Entry) → is_valid script ≡ true → IsLegal script (e ∷ past) → MayAdd script (state script past) e → NumbersFit (state_after script e (state script past)) → CanCapture script (turns script past) (length script.commands) e
can-capture script past (Call i word reply) ok legal may fits =
    let a = answered script past i word reply legal.0 in
    let told = call_taken script past i word reply a.command ok legal a.next in
    (subst (λ o. CanTakeAt (turns script past) o word reply) (sym a.next) told, takes-one script past i word reply legal)
can-capture script past (Send n r i same targets) ok legal may fits =
    let next = send-next script (state script past) (next_of (turns script past)) n.0 r.0 i same targets may in
    (next.0, next.1, subst (λ k. k + 1 < 2 ^ 32) next.1 fits.frames)
can-capture script past (Dropped n r i) ok legal may fits =
    let next = drop-next (stopping_in (clients script past)) (turns script past).numbers n r i (first_in (turns script past).waiting) may in
    (next.0, next.1, subst (λ k. k + 1 < 2 ^ 32) next.1 fits.frames)
can-capture script past (Begin word) ok legal may fits = tt
can-capture script past (Shutter n time) ok legal may fits = tt
can-capture script past (Partial n k part) ok legal may fits = tt
can-capture script past (Filled n s b f digest) ok legal may fits = tt
can-capture script past (Failed n s b f) ok legal may fits = tt
can-capture script past (ErrorRequest n) ok legal may fits = tt
can-capture script past (ErrorResult n) ok legal may fits = tt
can-capture script past (ErrorBuffer n s) ok legal may fits = tt
can-capture script past ErrorDevice ok legal may fits = tt
can-capture script past (Release b f) ok legal may fits = tt
can-capture script past (Signal f) ok legal may fits = tt
can-capture script past (Early n s b d) ok legal may fits = tt
can-capture script past (Late d digest) ok legal may fits = tt

-- ---- a buffer comes back early once

no-fences : (script : Script) (past : List Entry) (n : FrameNo) (s : StreamIx) (b : BufferId) (d : DeviceFenceNo) → IsLegal script (Early n s b d ∷ past) → early_fences n.0 s.0 past ≡ []
no-fences script past n s b d legal =
    let back = early-back script past n s b d legal.0 in
    not-given n.0 s.0 past (out-not-returned script past n.0 s.0 b.0 legal.1 back.out)

free-slot : (past : List Entry) (n : FrameNo) (s : StreamIx) (b : BufferId) (d : DeviceFenceNo) (m : ℕ) (t : Sent) → early_fences n.0 s.0 past ≡ [] → is_free (Early n s b d) m (target_at m past t) ≡ true
free-slot past n s b d m t none = elim (cases_Bool ((n.0 == m) && (s.0 == t.stream.0))) [
  | inl same ↦ (
      let parts = and_parts (n.0 == m) (s.0 == t.stream.0) same in
      let frame : n.0 ≡ m = grind (arith, nat_tests, parts.0) in
      let stream : s.0 ≡ t.stream.0 = grind (arith, nat_tests, parts.1) in
      let none' : early_fences m t.stream.0 past ≡ [] = sym (ap (λ k. early_fences k t.stream.0 past) frame) ∙ (sym (ap (λ k. early_fences n.0 k past) stream) ∙ none) in
      let given : is_none_given (early_fences m t.stream.0 past) ≡ true = rw none' refl in
      rw (same, given) refl
      )
  | inr other ↦ rw other refl
]

free-early : (script : Script) (past : List Entry) (n : FrameNo) (s : StreamIx) (b : BufferId) (d : DeviceFenceNo) → IsLegal script (Early n s b d ∷ past) → are_free (Early n s b d) (open_rows script past) ≡ true
free-early script past n s b d legal =
    let none = no-fences script past n s b d legal in
    all-filtered (λ (r : Row). list_all (is_free (Early n s b d) r.number) r.targets) is_open_row (map (row_of script past) (in_order past))
    (all-mapped (λ (r : Row). list_all (is_free (Early n s b d) r.number) r.targets) (row_of script past) (in_order past)
    ∙ all-always (λ m. list_all (is_free (Early n s b d) m) (map (target_at m past) (targets_of m past))) (in_order past) (λ m.
    all-mapped (is_free (Early n s b d) m) (target_at m past) (targets_of m past)
    ∙ all-always (λ t. is_free (Early n s b d) m (target_at m past t)) (targets_of m past) (λ t. free-slot past n s b d m t none)))

free-all : (e : Entry) (rs : List Row) → ((m : ℕ) (x : Target) → is_free e m x ≡ true) → are_free e rs ≡ true
free-all e rs each = all-always (λ (r : Row). list_all (is_free e r.number) r.targets) rs (λ r. all-always (is_free e r.number) r.targets (λ x. each r.number x))

free : (script : Script) (past : List Entry) (e : Entry) → IsLegal script (e ∷ past) → are_free e (open_rows script past) ≡ true
free script past (Early n s b d) legal = free-early script past n s b d legal
free script past (Call i word reply) legal = free-all (Call i word reply) (open_rows script past) (λ m x. refl)
free script past (Send n r i same targets) legal = free-all (Send n r i same targets) (open_rows script past) (λ m x. refl)
free script past (Dropped n r i) legal = free-all (Dropped n r i) (open_rows script past) (λ m x. refl)
free script past (Begin word) legal = free-all (Begin word) (open_rows script past) (λ m x. refl)
free script past (Shutter n time) legal = free-all (Shutter n time) (open_rows script past) (λ m x. refl)
free script past (Partial n k part) legal = free-all (Partial n k part) (open_rows script past) (λ m x. refl)
free script past (Filled n s b f digest) legal = free-all (Filled n s b f digest) (open_rows script past) (λ m x. refl)
free script past (Failed n s b f) legal = free-all (Failed n s b f) (open_rows script past) (λ m x. refl)
free script past (ErrorRequest n) legal = free-all (ErrorRequest n) (open_rows script past) (λ m x. refl)
free script past (ErrorResult n) legal = free-all (ErrorResult n) (open_rows script past) (λ m x. refl)
free script past (ErrorBuffer n s) legal = free-all (ErrorBuffer n s) (open_rows script past) (λ m x. refl)
free script past ErrorDevice legal = free-all ErrorDevice (open_rows script past) (λ m x. refl)
free script past (Release b f) legal = free-all (Release b f) (open_rows script past) (λ m x. refl)
free script past (Signal f) legal = free-all (Signal f) (open_rows script past) (λ m x. refl)
free script past (Late d digest) legal = free-all (Late d digest) (open_rows script past) (λ m x. refl)

-- ---- an allowed entry can be state_after

fitting : (script : Script) (past : List Entry) (e : Entry) → is_typed script ≡ true → is_valid script ≡ true → IsLegal script (e ∷ past) → NumbersFit (state_after script e (state script past))
fitting script past e typed ok legal = subst NumbersFit (noted_is script past e legal) (numbers_fit script (e ∷ past) typed ok legal)

few-noted : (script : Script) (past : List Entry) (e : Entry) → IsLegal script (e ∷ past) → length (state_after script e (state script past)).client.streams ≤ 4
few-noted script past e legal = subst (λ (s : State). length s.client.streams ≤ 4) (noted_is script past e legal) (few-streams script (e ∷ past) legal)

within : (a b : ℕ) → a + b < 2 ^ 32 → a < 2 ^ 32
within a b h = omega (arith, h)

pub can_note : (script : Script) (past : List Entry) (e : Entry) → is_typed script ≡ true → is_valid script ≡ true → IsLegal script past → IsAllowed script past e → CanNote script e (held script past)
can_note script past e typed ok legal may =
    let more : IsLegal script (e ∷ past) = (may, legal) in
    let fits = fitting script past e typed ok more in
    record {
      captures = can-capture script past e ok more (may_add_from script past e legal may) fits;
      client = record { calls = fits.calls; repeated = fits.repeated; done = fits.done; streams = few-noted script past e more };
      first = within _ _ fits.buffers;
      fences = fits.fences;
      device_fences = fits.device_fences;
      clock = fits.clock;
      free = free script past e more;
    }

-- what the tables hold after it
pub held_more : (script : Script) (past : List Entry) (e : Entry) (t u : Judged) → IsLegal script past → IsAllowed script past e → t ≡ held script past → u ≡ record t { state = state_after script e t.state } → u ≡ held script (e ∷ past)
held_more script past e t u legal may holds step =
    let more : IsLegal script (e ∷ past) = (may, legal) in
    step ∙ (ap (λ (x : Judged). record x { state = state_after script e x.state }) holds
    ∙ ap (λ (s : State). record { state = s; room = length script.commands }) (sym (noted_is script past e more)))

-- what may be added to the state that the tables hold is what is allowed
pub allowed_by : (script : Script) (past : List Entry) (e : Entry) (t : Judged) (due : Bool) → IsLegal script past → t ≡ held script past → (IsTrue due ↔ MayAdd script t.state e) → (IsTrue due ↔ IsAllowed script past e)
allowed_by script past e t due legal holds rule =
    let here = subst (λ (x : Judged). IsTrue due ↔ MayAdd script x.state e) holds rule in
    (λ h. allowed_from script past e legal (here.0 h), λ h. here.1 (may_add_from script past e legal h))

-- ---- what is missing

pub missing_is : (script : Script) (past : List Entry) → IsLegal script past → missing_in script (state script past) ≡ first_missing script past
missing_is script past legal = rw (quiet_reads script past legal, pool_is script past legal, all_signalled_is script past legal) refl

-- ---- the entries up to a place
