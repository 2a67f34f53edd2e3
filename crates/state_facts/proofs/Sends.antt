-- What a send, a drop and a call do to the queue and to the turn of the repeating list.
use Rattle.std.proofs.Common.{◌≡◌, ℕ, ◌==◌, ◌+◌, ◌%◌, Bool, true, false, ◌||◌, not, List, [], ◌∷◌, ◌++◌, Option, Some, None, refl, sym, ap, ◌∙◌, arith, filter, length, nat_lt, slice_get, append-nil, if◌then◌else◌}
use Rattle.std.proofs.Math.Nat.{mod-add-mod}
use Rattle.std.proofs.lemmas.Bool.{and_parts, both_ways, false≢true, ne_eqb, not-true}
use Rattle.std.proofs.lemmas.List.Elements.{filter-append}
use Rattle.cam_types.specs.declared.four.Four.{Four}
use Rattle.cam_types.specs.declared.item.Item.{Item}
use Rattle.cam_types.specs.declared.number.FrameNo.{FrameNo}
use Rattle.cam_types.specs.declared.number.RequestId.{RequestId}
use Rattle.cam_types.specs.declared.reply.Reply.TheVariants.{Submitted}
use Rattle.cam_types.specs.declared.script.Script.{Script}
use Rattle.cam_types.specs.declared.script.Word.{Word}
use Rattle.trace_model.specs.declared.entry.Entry.{Entry}
use Rattle.trace_model.specs.declared.entry.Entry.TheVariants.{Call, Send, Dropped}
use Rattle.trace_model.specs.declared.entry.Sent.{Sent}
use Rattle.trace_model.specs.Calls.{command_at, is_repeating, request_count}
use Rattle.trace_model.specs.Client.{call_due}
use Rattle.trace_model.specs.Drop.{drop_due, drop_of}
use Rattle.trace_model.specs.Entry.{sends_for}
use Rattle.trace_model.specs.Legal.{IsLegal}
use Rattle.trace_model.specs.Queue.{first_in, is_taken, named, next_at, next_from, next_repeating, puts, queued, queued_items, repeating, sent_for, submitted}
use Rattle.cam_types.specs.Requests.{Repeating}
use Rattle.cam_types.specs.declared.request.WaitingItem.{WaitingItem}
use Rattle.trace_model.specs.Send.{fits_next, may_send}
use Rattle.trace_model.specs.Stopping.{is_stopping}
use Rattle.trace_model.proofs.LawLemmas.{goes}
use Rattle.trace_laws.proofs.RepeatLemmas.{repeating-stands}
use Rattle.trace_laws.proofs.Submitted.{is_settled, request-number, settled}
use Rattle.state_facts.specs.Turns.{moved, placed, tail, turn_sent}
use Rattle.state_facts.proofs.Names.{untaken}
use Rattle.state_facts.proofs.Apart.{filter-tail, is_named, submitted-apart}
use Rattle.basic_lemmas.proofs.Counts.{count-one, count-over}
use Rattle.basic_lemmas.proofs.Lists.{filter-none-left, first-passes}

-- ---- the queue

by-name : (past : List Entry) (w : WaitingItem) (r i : ℕ) (xs rest : List WaitingItem) → r ≡ w.request.0 → i ≡ w.index → filter (λ x. not (is_named w.request.0 w.index x || is_taken past x)) xs ≡ rest → filter (λ x. not (is_named r i x || is_taken past x)) xs ≡ rest
by-name past w r i xs rest a b h = rw (a, b) h

-- what takes the first by its name leaves the rest
pub queue-sent : (script : Script) (past : List Entry) (w : WaitingItem) (rest : List WaitingItem) (n : FrameNo) (r : RequestId) (i : ℕ) (same : Bool) (targets : Four Sent) → IsLegal script past → queued script past ≡ w ∷ rest → r.0 ≡ w.request.0 → i ≡ w.index → queued script (Send n r i same targets ∷ past) ≡ rest
queue-sent script past w rest n r i same targets legal at a b =
    rw (append-nil (submitted script past)) (by-name past w r.0 i (submitted script past) rest a b (filter-tail (is_taken past) w rest (submitted script past) (submitted-apart script past legal) at))

pub queue-dropped : (script : Script) (past : List Entry) (w : WaitingItem) (rest : List WaitingItem) (n : FrameNo) (r : RequestId) (i : ℕ) → IsLegal script past → queued script past ≡ w ∷ rest → r.0 ≡ w.request.0 → i ≡ w.index → queued script (Dropped n r i ∷ past) ≡ rest
queue-dropped script past w rest n r i legal at a b =
    rw (append-nil (submitted script past)) (by-name past w r.0 i (submitted script past) rest a b (filter-tail (is_taken past) w rest (submitted script past) (submitted-apart script past legal) at))

pub queue-empty : (script : Script) (past : List Entry) (e : Entry) → puts script e ≡ [] → queued script past ≡ [] → queued script (e ∷ past) ≡ []
queue-empty script past e none at =
    rw (none, append-nil (submitted script past)) (filter-none-left (λ w. not (is_taken past w)) (λ w. not (is_taken (e ∷ past) w)) (λ w h. grind arith) (submitted script past) at)

named-kept : (p : WaitingItem → Bool) (r : RequestId) (k : ℕ) (items : List Item) → ((w : WaitingItem) → w.request.0 ≡ r.0 → p w ≡ true) → filter p (named r k items) ≡ named r k items
named-kept p r k [] each = refl
named-kept p r k (item ∷ items) each = rw (each (record { request = r; index = k; item = item }) refl, named-kept p r (k + 1) items each) refl

pub queue-submitted : (script : Script) (past : List Entry) (i : ℕ) (word : Word) (q : RequestId) → IsLegal script past → call_due script past ≡ Some (Call i word (Submitted q)) → queued script (Call i word (Submitted q) ∷ past) ≡ queued script past ++ puts script (Call i word (Submitted q))
queue-submitted script past i word q legal may =
    let number = request-number script past i word q may in
    let new = named-kept (λ w. not (is_taken past w)) q 0 (queued_items (command_at script i)) (λ w at. rw (untaken script past w legal (omega (arith, number, at))) refl) in
    filter-append (λ w. not (is_taken past w)) (submitted script past) (named q 0 (queued_items (command_at script i))) ∙ ap (λ ws. queued script past ++ ws) new

-- ---- the turn

-- an entry that sends nothing for a repeating list leaves its turn
turn-over : (past : List Entry) (e : Entry) (q : Repeating) → sends_for q.request.0 e ≡ false → placed (e ∷ past) (Some q) ≡ placed past (Some q)
turn-over past e q over = rw (count-over (sends_for q.request.0) e past over) refl

turn-on : (past : List Entry) (e : Entry) (q : Repeating) → sends_for q.request.0 e ≡ true → placed (e ∷ past) (Some q) ≡ moved (placed past (Some q))
turn-on past e q here =
    let one = count-one (sends_for q.request.0) e past here in
    let more : sent_for q.request.0 (e ∷ past) ≡ sent_for q.request.0 past + 1 = omega (arith, one) in
    rw (more, mod-add-mod (sent_for q.request.0 past) (length q.items) 1) refl

-- what waits is of a request that doesn't repeat
other-request : (script : Script) (past : List Entry) (w : WaitingItem) (rest : List WaitingItem) (q : Repeating) (r : ℕ) → IsLegal script past → queued script past ≡ w ∷ rest → repeating script past ≡ Some q → r ≡ w.request.0 → (r == q.request.0) ≡ false
other-request script past w rest q r legal at list is =
    let settled' = first-passes (λ x. not (is_taken past x)) (is_settled script past) w rest (submitted script past) (settled script past legal) at in
    let once = not-true (is_repeating script past w.request.0) (and_parts (nat_lt w.request.0 (request_count past)) (not (is_repeating script past w.request.0)) settled').1 in
    let stands = repeating-stands script past q legal list in
    let repeats : is_repeating script past q.request.0 ≡ true = rw (stands.0) refl in
    ne_eqb r q.request.0 (λ same.
    let same' : w.request.0 ≡ q.request.0 = sym is ∙ same in
    let repeats' : is_repeating script past w.request.0 ≡ true = rw same' repeats in
    both_ways (is_repeating script past w.request.0) once repeats')

-- ---- a send

abbrev pub IsKept : Script → List Entry → List WaitingItem → Option Repeating → Entry → Type 0
IsKept script past xs q e = (queued script (e ∷ past) ≡ tail xs) × (placed (e ∷ past) q ≡ turn_sent xs (placed past q))

sent-by-list : (script : Script) (past : List Entry) (q : Repeating) (k : ℕ) (o : Option Item) (n : FrameNo) (r : RequestId) (i : ℕ) (same : Bool) (targets : Four Sent) → queued script past ≡ [] → fits_next script past (next_at q.request k o) n.0 r.0 i same targets ≡ true → IsKept script past [] (Some q) (Send n r i same targets)
sent-by-list script past q k None n r i same targets at may = absurd (false≢true may)
sent-by-list script past q k (Some item) n r i same targets at may =
    let g = goes script past (record { request = q.request; index = k; item = item; repeating = true }) n.0 r.0 i same targets may in
    let own : (r.0 == q.request.0) ≡ true = rw (g.request) (grind arith) in
    (queue-empty script past (Send n r i same targets) refl at, turn-on past (Send n r i same targets) q own)

turn-queued : (script : Script) (past : List Entry) (w : WaitingItem) (rest : List WaitingItem) (q : Option Repeating) (n : FrameNo) (r : RequestId) (i : ℕ) (same : Bool) (targets : Four Sent) → IsLegal script past → queued script past ≡ w ∷ rest → repeating script past ≡ q → r.0 ≡ w.request.0 → placed (Send n r i same targets ∷ past) q ≡ placed past q
turn-queued script past w rest None n r i same targets legal at list is = refl
turn-queued script past w rest (Some q) n r i same targets legal at list is =
    turn-over past (Send n r i same targets) q (other-request script past w rest q r.0 legal at list is)

sent-by : (script : Script) (past : List Entry) (xs : List WaitingItem) (q : Option Repeating) (n : FrameNo) (r : RequestId) (i : ℕ) (same : Bool) (targets : Four Sent) → IsLegal script past → queued script past ≡ xs → repeating script past ≡ q → fits_next script past (next_from (first_in xs) (next_repeating q past)) n.0 r.0 i same targets ≡ true → IsKept script past xs q (Send n r i same targets)
sent-by script past [] None n r i same targets legal at list may = absurd (false≢true may)
sent-by script past [] (Some q) n r i same targets legal at list may =
    let k = sent_for q.request.0 past % length q.items in
    sent-by-list script past q k (slice_get q.items k) n r i same targets at may
sent-by script past (w ∷ rest) q n r i same targets legal at list may =
    let g = goes script past (record { request = w.request; index = w.index; item = w.item; repeating = false }) n.0 r.0 i same targets may in
    (queue-sent script past w rest n r i same targets legal at g.request g.index, turn-queued script past w rest q n r i same targets legal at list g.request)

pub sent-kept : (script : Script) (past : List Entry) (n : FrameNo) (r : RequestId) (i : ℕ) (same : Bool) (targets : Four Sent) → IsLegal script past → may_send script past n.0 r.0 i same targets ≡ true → IsKept script past (queued script past) (repeating script past) (Send n r i same targets)
sent-kept script past n r i same targets legal may = sent-by script past (queued script past) (repeating script past) n r i same targets legal refl refl may

-- ---- a drop

dropped-by : (script : Script) (past : List Entry) (xs : List WaitingItem) (stopping : Bool) (n : FrameNo) (r : RequestId) (i : ℕ) → IsLegal script past → queued script past ≡ xs → (if stopping then drop_of past (first_in xs) else None) ≡ Some (Dropped n r i) → queued script (Dropped n r i ∷ past) ≡ tail xs
dropped-by script past [] true n r i legal at h = absurd (cc)
dropped-by script past [] false n r i legal at h = absurd (cc)
dropped-by script past (w ∷ rest) false n r i legal at h = absurd (cc)
dropped-by script past (w ∷ rest) true n r i legal at h =
    let request : w.request ≡ r = cc in
    let index : w.index ≡ i = cc in
    queue-dropped script past w rest n r i legal at (rw (← request) refl) (sym index)

pub dropped-kept : (script : Script) (past : List Entry) (n : FrameNo) (r : RequestId) (i : ℕ) → IsLegal script past → drop_due script past ≡ Some (Dropped n r i) → queued script (Dropped n r i ∷ past) ≡ tail (queued script past)
dropped-kept script past n r i legal h = dropped-by script past (queued script past) (is_stopping past) n r i legal refl h
