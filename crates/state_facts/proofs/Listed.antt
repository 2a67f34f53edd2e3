-- The queue and the repeating list hold items that can be served.
use Rattle.basic_lemmas.proofs.Lists.{all-filtered}
use Rattle.std.proofs.Common.{◌≡◌, ◌<◌, ℕ, ◌+◌, Bool, true, false, ◌&&◌, ◌||◌, not, List, [], ◌∷◌, Option, Some, None, refl, inl, inr, append-nil, filter, is_some, length}
use Rattle.std.specs.List.{list_all}
use Rattle.std.proofs.lemmas.Bool.{and_from, and_parts, cases_Bool, false≢true}
use Rattle.std.proofs.lemmas.List.Elements.{filter-append}
use Rattle.std.proofs.lemmas.List.Folds.{list_all-append}
use Rattle.cam_types.specs.declared.number.RequestId.{RequestId}
use Rattle.cam_types.specs.declared.item.Item.{Item}
use Rattle.cam_types.specs.declared.reply.Reply.{Reply}
use Rattle.cam_types.specs.declared.reply.Reply.TheVariants.{Ok, Submitted, Configured, Refused}
use Rattle.cam_types.specs.declared.script.Command.{Command}
use Rattle.cam_types.specs.declared.script.Command.TheVariants.{Configure, Once, Burst, Repeat, Stop, Wait, Await, Flush, Close, Disconnect}
use Rattle.cam_types.specs.declared.script.Script.{Script}
use Rattle.trace_model.specs.declared.entry.Entry.{Entry}
use Rattle.trace_model.specs.declared.entry.Entry.TheVariants.{Call}
use Rattle.trace_model.specs.Calls.{begun, command_at, is_waiting_command, request_count, word_of}
use Rattle.trace_model.specs.Client.{is_empty, is_over, may_answer}
use Rattle.trace_model.specs.Configuration.{streams}
use Rattle.trace_model.specs.Entry.{is_refusal, takes}
use Rattle.trace_model.specs.Legal.{IsLegal}
use Rattle.trace_model.specs.Numbers.{call_count}
use Rattle.trace_model.specs.Open.{is_quiet}
use Rattle.trace_model.specs.Place.{all_in_pool}
use Rattle.trace_model.specs.Queue.{is_taken, named, puts, queued, repeating, submitted}
use Rattle.cam_types.specs.Requests.{Repeating}
use Rattle.cam_types.specs.declared.request.WaitingItem.{WaitingItem}
use Rattle.trace_model.specs.Reply.{acceptance, queue_refusal, refusal, reply, reply_with}
use Rattle.cam_types.specs.Refusals.{items_refusal, list_refusal}
use Rattle.trace_laws.proofs.Calls.{by-answer}
use Rattle.trace_laws.proofs.Refusals.{refuses, refusal-refuses}
use Rattle.state_facts.proofs.Served.{is_served, is_within, items_none, list-none, own-none, within-served}
use Rattle.basic_lemmas.proofs.Lists.{all-where}
use Rattle.cam_types.proofs.RefusalLemmas.{or-none}

-- ---- the queue

fewer : (p a b : WaitingItem → Bool) (xs : List WaitingItem) → ((x : WaitingItem) → b x ≡ true → a x ≡ true) → list_all p (filter a xs) ≡ true → list_all p (filter b xs) ≡ true
fewer p a b [] each all = refl
fewer p a b (x ∷ xs) each all =
    elim (cases_Bool (b x)) [
      | inl kept ↦ (
          let all' = rw (each x kept) at all in
          let parts = and_parts (p x) (list_all p (filter a xs)) all' in
          rw (kept, parts.0) (fewer p a b xs each parts.1)
          )
      | inr out ↦ rw out (fewer p a b xs each (elim (cases_Bool (a x)) [
        | inl had ↦ (let all' = rw had at all in (and_parts (p x) (list_all p (filter a xs)) all').1)
        | inr none ↦ (let all' = rw none at all in all')
      ]))
    ]

untaken : (a b : Bool) → not (a || b) ≡ true → not b ≡ true
untaken true b h = absurd (false≢true h)
untaken false b h = h

abbrev pub AreQueued : Script → List Entry → (WaitingItem → Bool) → Type 0
AreQueued script past p = list_all p (queued script past) ≡ true

old_kept : (script : Script) (past : List Entry) (e : Entry) (p : WaitingItem → Bool) → AreQueued script past p → list_all p (filter (λ w. not (is_taken (e ∷ past) w)) (submitted script past)) ≡ true
old_kept script past e p all = fewer p (λ w. not (is_taken past w)) (λ w. not (is_taken (e ∷ past) w)) (submitted script past) (λ w h. untaken (takes w.request.0 w.index e) (is_taken past w) h) all

queue_kept : (script : Script) (past : List Entry) (e : Entry) (p : WaitingItem → Bool) → puts script e ≡ [] → AreQueued script past p → AreQueued script (e ∷ past) p
queue_kept script past e p none all = rw (none, append-nil (submitted script past)) (old_kept script past e p all)

named_all : (p : Item → Bool) (r : RequestId) (i : ℕ) (items : List Item) → list_all p items ≡ true → list_all (λ w. p w.item) (named r i items) ≡ true
named_all p r i [] all = refl
named_all p r i (item ∷ items) all = let parts = and_parts (p item) (list_all p items) all in rw (parts.0, named_all p r (i + 1) items parts.1) refl

queue_more : (script : Script) (past : List Entry) (e : Entry) (p : Item → Bool) (r : RequestId) (items : List Item) → puts script e ≡ named r 0 items → list_all p items ≡ true → AreQueued script past (λ w. p w.item) → AreQueued script (e ∷ past) (λ w. p w.item)
queue_more script past e p r items new all before =
    let kept : WaitingItem → Bool = λ w. not (is_taken (e ∷ past) w) in
    rw (new, filter-append kept (submitted script past) (named r 0 items), list_all-append)
    (and_from _ _ (old_kept script past e (λ w. p w.item) before) (all-filtered (λ w. p w.item) kept (named r 0 items) (named_all p r 0 items all)))

abbrev pub QueueServed : Script → List Entry → Type 0
QueueServed script past = AreQueued script past (λ w. is_served script past w.item)

all_served : (script : Script) (past : List Entry) (items : List Item) → IsLegal script past → list_all (is_within (length (streams script past))) items ≡ true → list_all (is_served script past) items ≡ true
all_served script past items legal all = all-where (is_within (length (streams script past))) (is_served script past) items (λ item within. within-served script past item legal within) all

empty_queue : (script : Script) (past : List Entry) (p : WaitingItem → Bool) → is_empty (queued script past) ≡ true → AreQueued script past p
empty_queue script past p h = by (queued script past) h
  where
    by : (xs : List WaitingItem) → is_empty xs ≡ true → list_all p xs ≡ true
    by [] h = refl
    by (x ∷ xs) h = absurd (false≢true h)

-- an accepted command that waits for it finds an empty queue
configured_idle : (script : Script) (past : List Entry) (c : Command) → refusal script past c ≡ None → is_refusal (acceptance script past c) ≡ false → may_answer script past c ≡ true → is_over script past c ≡ true
configured_idle script past c none accepted may =
    let over = (and_parts (not (is_waiting_command c) || is_some (begun past)) (is_refusal (reply script past c) || is_over script past c) may).1 in
    rw (none, accepted) at over

call_queue : (script : Script) (past : List Entry) (i : ℕ) (c : Command) (e : Option Reply) → refusal script past c ≡ e → refuses e ≡ true → command_at script i ≡ Some c → may_answer script past c ≡ true → IsLegal script past → QueueServed script past → QueueServed script (Call i (word_of c) (reply_with e (acceptance script past c)) ∷ past)
call_queue script past i c (Some (Refused code first second)) is h at may legal before = queue_kept script past (Call i (word_of c) (Refused code first second)) (λ w. is_served script past w.item) refl before
call_queue script past i c (Some Ok) is h at may legal before = absurd (false≢true h)
call_queue script past i c (Some (Submitted r)) is h at may legal before = absurd (false≢true h)
call_queue script past i c (Some (Configured each)) is h at may legal before = absurd (false≢true h)
call_queue script past i (Configure specs) None is h at may legal before =
    let over = configured_idle script past (Configure specs) is refl may in
    let idle = and_parts (is_quiet past && is_empty (queued script past)) (all_in_pool past) over in
    let empty = and_parts (is_quiet past) (is_empty (queued script past)) idle.0 in
    let e : Entry = Call i (word_of (Configure specs)) (acceptance script past (Configure specs)) in
    queue_kept script past e (λ w. is_served script (e ∷ past) w.item) refl (empty_queue script past (λ w. is_served script (e ∷ past) w.item) empty.1)
call_queue script past i (Once item) None is h at may legal before =
    let own = or-none (items_refusal (length (streams script past)) 0 (item ∷ [])) (queue_refusal script past (item ∷ [])) (own-none script past (Once item) is) in
    queue_more script past (Call i (word_of (Once item)) (acceptance script past (Once item))) (is_served script past) (record { 0 = request_count past }) (item ∷ []) (rw at refl) (all_served script past (item ∷ []) legal (items_none (length (streams script past)) 0 (item ∷ []) own.0)) before
call_queue script past i (Burst items) None is h at may legal before =
    let own = or-none (list_refusal (length (streams script past)) items) (queue_refusal script past items) (own-none script past (Burst items) is) in
    queue_more script past (Call i (word_of (Burst items)) (acceptance script past (Burst items))) (is_served script past) (record { 0 = request_count past }) items (rw at refl) (all_served script past items legal (list-none (length (streams script past)) items own.0).1) before
call_queue script past i (Repeat items) None is h at may legal before = queue_kept script past (Call i (word_of (Repeat items)) (acceptance script past (Repeat items))) (λ w. is_served script past w.item) (rw at refl) before
call_queue script past i Stop None is h at may legal before = queue_kept script past (Call i (word_of Stop) Ok) (λ w. is_served script past w.item) refl before
call_queue script past i Wait None is h at may legal before = queue_kept script past (Call i (word_of Wait) Ok) (λ w. is_served script past w.item) refl before
call_queue script past i (Await k) None is h at may legal before = queue_kept script past (Call i (word_of (Await k)) Ok) (λ w. is_served script past w.item) refl before
call_queue script past i Flush None is h at may legal before = queue_kept script past (Call i (word_of Flush) Ok) (λ w. is_served script past w.item) refl before
call_queue script past i Close None is h at may legal before = queue_kept script past (Call i (word_of Close) Ok) (λ w. is_served script past w.item) refl before
call_queue script past i Disconnect None is h at may legal before = queue_kept script past (Call i (word_of Disconnect) Ok) (λ w. is_served script past w.item) refl before

pub queue-served : (script : Script) (past : List Entry) → IsLegal script past → QueueServed script past
queue-served script [] legal = refl
queue-served script (Call i w r ∷ past) legal =
    by-answer (λ e. QueueServed script (e ∷ past)) script past i w r legal.0
    (λ c at may. call_queue script past (call_count past) c (refusal script past c) refl (refusal-refuses script past c) at may legal.1 (queue-served script past legal.1))
queue-served script (e ∷ past) legal = queue_kept script past e (λ w. is_served script past w.item) refl (queue-served script past legal.1)

-- ---- the repeating list

abbrev pub ListServed : Script → List Entry → Type 0
ListServed script past = (q : Repeating) → repeating script past ≡ Some q → (0 < length q.items) × (list_all (is_served script past) q.items ≡ true)

list_by : (p : Item → Bool) (r : RequestId) (items : List Item) (q : Repeating) → record { request = r; items = items } ≡ q → (0 < length items) × (list_all p items ≡ true) → (0 < length q.items) × (list_all p q.items ≡ true)
list_by p r items q same all = rw (← same) all

call_list : (script : Script) (past : List Entry) (i : ℕ) (c : Command) (e : Option Reply) → refusal script past c ≡ e → refuses e ≡ true → command_at script i ≡ Some c → IsLegal script past → ListServed script past → ListServed script (Call i (word_of c) (reply_with e (acceptance script past c)) ∷ past)
call_list script past i c (Some (Refused code first second)) is h at legal before = before
call_list script past i c (Some Ok) is h at legal before = absurd (false≢true h)
call_list script past i c (Some (Submitted r)) is h at legal before = absurd (false≢true h)
call_list script past i c (Some (Configured each)) is h at legal before = absurd (false≢true h)
call_list script past i (Configure specs) None is h at legal before = λ q k. absurd (cc)
call_list script past i (Once item) None is h at legal before = before
call_list script past i (Burst items) None is h at legal before = before
call_list script past i (Repeat items) None is h at legal before = λ q k. (
    let k' = rw at at k in
    let same : record { request = record { 0 = request_count past }; items = items } ≡ q = cc in
    let all = list-none (length (streams script past)) items (own-none script past (Repeat items) is) in
    list_by (is_served script past) (record { 0 = request_count past }) items q same (all.0, all_served script past items legal all.1)
    )
call_list script past i Stop None is h at legal before = λ q k. absurd (cc)
call_list script past i Wait None is h at legal before = before
call_list script past i (Await k) None is h at legal before = before
call_list script past i Flush None is h at legal before = λ q k. absurd (cc)
call_list script past i Close None is h at legal before = λ q k. absurd (cc)
call_list script past i Disconnect None is h at legal before = λ q k. absurd (cc)

pub list-served : (script : Script) (past : List Entry) → IsLegal script past → ListServed script past
list-served script [] legal = λ q k. absurd (cc)
list-served script (Call i w r ∷ past) legal =
    by-answer (λ e. ListServed script (e ∷ past)) script past i w r legal.0
    (λ c at may. call_list script past (call_count past) c (refusal script past c) refl (refusal-refuses script past c) at legal.1 (list-served script past legal.1))
list-served script (e ∷ past) legal = list-served script past legal.1
