-- The settings of a frame are in their ranges: an item that isn't refused has such settings.
use Rattle.std.proofs.Common.{◌≡◌, ℕ, zero, suc, ◌+◌, ◌==◌, true, List, [], ◌∷◌, Option, Some, None, refl, sym, ap, ◌∙◌, inl, inr, length, slice_get, take}
use Rattle.std.proofs.lemmas.Bool.{cases_Bool, false≢true}
use Rattle.cam_types.specs.Metadata.{range_fault}
use Rattle.cam_types.specs.Refusals.{item_refusal, items_refusal, list_refusal, targets_refusal, with_value}
use Rattle.cam_types.specs.declared.item.Item.{Item}
use Rattle.cam_types.specs.declared.number.RequestId.{RequestId}
use Rattle.cam_types.specs.declared.reply.Reply.{Reply}
use Rattle.cam_types.specs.declared.reply.Reply.TheVariants.{Ok as Accepted, Submitted, Configured, Refused}
use Rattle.cam_types.specs.declared.request.Queued.{Queued}
use Rattle.cam_types.specs.declared.script.Command.{Command}
use Rattle.cam_types.specs.declared.script.Command.TheVariants.{Once, Burst, Repeat}
use Rattle.cam_types.specs.declared.script.Script.{Script}
use Rattle.cam_types.specs.declared.script.Word.{Word}
use Rattle.trace_model.specs.declared.entry.Entry.{Entry}
use Rattle.trace_model.specs.declared.entry.Entry.TheVariants.{Call, Send}
use Rattle.trace_model.specs.Calls.{command_at, command_of, item_at, items_of, word_of}
use Rattle.trace_model.specs.Client.{call_due}
use Rattle.trace_model.specs.Configuration.{streams}
use Rattle.trace_model.specs.Frames.{is_sent, settings_in, settings_of}
use Rattle.trace_model.specs.Legal.{IsLegal}
use Rattle.trace_model.specs.Numbers.{call_count}
use Rattle.trace_model.specs.Queue.{next}
use Rattle.trace_model.specs.Reply.{acceptance, own_refusal, queue_refusal, refusal, reply, reply_with, state_refusal}
use Rattle.trace_laws.proofs.Calls.{by-call}
use Rattle.trace_laws.proofs.Refusals.{refuses, refusal-refuses}
use Rattle.trace_laws.proofs.Frames.{sent-once}
use Rattle.state_facts.proofs.Accepted.{settings-kept}
use Rattle.state_facts.proofs.Items.{IsNext, is-next}
use Rattle.cam_types.proofs.RefusalLemmas.{no-value, or-none}

pub items-in-range : (n i : ℕ) (items : List Item) → items_refusal n i items ≡ None → (k : ℕ) (item : Item) → slice_get items k ≡ Some item → range_fault item.settings ≡ None
items-in-range n i [] h k item at = absurd (cc)
items-in-range n i (x ∷ items) h zero item at =
    let same : x ≡ item = cc in
    let first = or-none (item_refusal n i x) (items_refusal n (i + 1) items) h in
    let range = or-none (targets_refusal n i (take x.targets.count x.targets.list)) (with_value 8 i (range_fault x.settings)) first.0 in
    rw (sym same) (no-value 8 i (range_fault x.settings) range.1)
items-in-range n i (x ∷ items) h (suc k) item at = items-in-range n (i + 1) items (or-none (item_refusal n i x) (items_refusal n (i + 1) items) h).1 k item at

pub list-in-range : (n : ℕ) (items : List Item) → list_refusal n items ≡ None → (k : ℕ) (item : Item) → slice_get items k ≡ Some item → range_fault item.settings ≡ None
list-in-range n [] h k item at = absurd (cc)
list-in-range n (x ∷ items) h k item at = items-in-range n 0 (x ∷ items) h k item at

-- what is submitted wasn't refused
not-refused : (o : Option Reply) (accepted : Reply) (q : RequestId) → refuses o ≡ true → reply_with o accepted ≡ Submitted q → o ≡ None
not-refused None accepted q h at = refl
not-refused (Some (Refused code a b)) accepted q h at = absurd (cc)
not-refused (Some Accepted) accepted q h at = absurd (false≢true h)
not-refused (Some (Submitted r)) accepted q h at = absurd (false≢true h)
not-refused (Some (Configured m)) accepted q h at = absurd (false≢true h)

accepted-in-range : (script : Script) (past : List Entry) (c : Command) → own_refusal script past c ≡ None → (k : ℕ) (item : Item) → slice_get (items_of (Some c)) k ≡ Some item → range_fault item.settings ≡ None
accepted-in-range script past (Once x) own k item at =
    items-in-range (length (streams script past)) 0 (x ∷ []) (or-none (items_refusal (length (streams script past)) 0 (x ∷ [])) (queue_refusal script past (x ∷ [])) own).0 k item at
accepted-in-range script past (Burst items) own k item at =
    list-in-range (length (streams script past)) items (or-none (list_refusal (length (streams script past)) items) (queue_refusal script past items) own).0 k item at
accepted-in-range script past (Repeat items) own k item at = list-in-range (length (streams script past)) items own k item at
accepted-in-range script past _ own k item at = absurd (cc)

abbrev pub InRange : Option Command → Type 0
InRange c = (k : ℕ) (item : Item) → slice_get (items_of c) k ≡ Some item → range_fault item.settings ≡ None

-- the command that a submission accepts
abbrev pub Submits : Script → Entry → Type 0
Submits script (Call i _ (Submitted _)) = InRange (command_at script i)
Submits script _ = Unit {0}

submits-by : (script : Script) (i : ℕ) (w : Word) (r : Reply) → ((q : RequestId) → r ≡ Submitted q → InRange (command_at script i)) → Submits script (Call i w r)
submits-by script i w (Submitted q) each = each q refl
submits-by script i w Accepted each = tt
submits-by script i w (Configured m) each = tt
submits-by script i w (Refused code a b) each = tt

submitted-in-range : (script : Script) (past : List Entry) (i : ℕ) (w : Word) (q : RequestId) → call_due script past ≡ Some (Call i w (Submitted q)) → InRange (command_at script i)
submitted-in-range script past i w q due =
    by-call (Submits script) script past i w (Submitted q) due
    (λ c at. submits-by script (call_count past) (word_of c) (reply script past c) (λ p is.
    let none = not-refused (refusal script past c) (acceptance script past c) p (refusal-refuses script past c) is in
    let own = (or-none (state_refusal past c) (own_refusal script past c) none).1 in
    λ k item found. accepted-in-range script past c own k item (ap (λ (o : Option Command). slice_get (items_of o) k) (sym at) ∙ found)))

-- each item that was submitted
item-in-range : (script : Script) (past : List Entry) (r : ℕ) → IsLegal script past → InRange (command_of script past r)
item-in-range script [] r legal = λ k item at. absurd (cc)
item-in-range script (Call i w (Submitted q) ∷ past) r legal = elim (cases_Bool (q.0 == r)) [
  | inl here ↦ rw here (submitted-in-range script past i w q legal.0)
  | inr other ↦ rw other (item-in-range script past r legal.1)
]
item-in-range script (e ∷ past) r legal = item-in-range script past r legal.1

next-range : (script : Script) (past : List Entry) (r i : ℕ) (o : Option Queued) → IsLegal script past → IsNext script past r i o → range_fault (settings_in (item_at script past r i)) ≡ None
next-range script past r i (Some w) legal is = ap (λ (x : Option Item). range_fault (settings_in x)) is.0 ∙ item-in-range script past r legal i w.item is.0
next-range script past r i None legal is = absurd is

-- the settings of a frame
pub sent-range : (script : Script) (past : List Entry) (n : ℕ) → IsLegal script past → is_sent n past ≡ true → range_fault (settings_of script past n) ≡ None
sent-range script [] n legal sent = absurd (false≢true sent)
sent-range script (Send m r i same targets ∷ past) n legal sent = elim (cases_Bool (m.0 == n)) [
  | inl here ↦ rw here (next-range script past r.0 i (next script past) legal.1 (is-next script past m.0 r.0 i same targets legal.1 legal.0))
  | inr other ↦ (
      let sent' : is_sent n past ≡ true = rw other at sent in
      ap range_fault (settings-kept script past (Send m r i same targets) n legal sent' other) ∙ sent-range script past n legal.1 sent'
      )
]
sent-range script (e ∷ past) n legal sent = ap range_fault (settings-kept script past e n legal sent (sent-once script past e n legal.1 legal.0 sent)) ∙ sent-range script past n legal.1 sent
