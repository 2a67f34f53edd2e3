-- What is sent is the next item: its settings are what the trace says of the request and the place that a send names.
use Rattle.std.proofs.Common.{◌≡◌, ℕ, suc, ◌==◌, ◌+◌, ◌%◌, Bool, true, false, not, List, [], ◌∷◌, ◌++◌, Option, Some, None, refl, sym, subst, arith, inl, inr, filter, length, nat_lt, slice_get, append-nil}
use Rattle.std.specs.List.{list_all}
use Rattle.std.proofs.lemmas.Bool.{and_parts, cases_Bool, eq-eqb, false≢true, ltb-true, ne_eqb, not-true}
use Rattle.cam_types.specs.declared.four.Four.{Four}
use Rattle.cam_types.specs.declared.item.Item.{Item}
use Rattle.cam_types.specs.declared.number.RequestId.{RequestId}
use Rattle.cam_types.specs.declared.reply.Reply.TheVariants.{Submitted}
use Rattle.cam_types.specs.declared.script.Command.{Command}
use Rattle.cam_types.specs.declared.script.Command.TheVariants.{Once, Burst}
use Rattle.cam_types.specs.declared.script.Script.{Script}
use Rattle.trace_model.specs.declared.entry.Entry.{Entry}
use Rattle.trace_model.specs.declared.entry.Entry.TheVariants.{Call}
use Rattle.trace_model.specs.declared.entry.Sent.{Sent}
use Rattle.trace_model.specs.Calls.{command_at, is_repeating, item_at, items_of, request_count}
use Rattle.trace_model.specs.Legal.{IsLegal}
use Rattle.trace_model.specs.Queue.{first_in, is_taken, named, next, next_at, next_from, next_repeating, puts, queued, queued_items, repeating, sent_for, submitted}
use Rattle.cam_types.specs.Requests.{Repeating}
use Rattle.cam_types.specs.declared.request.Queued.{Queued}
use Rattle.cam_types.specs.declared.request.WaitingItem.{WaitingItem}
use Rattle.trace_model.specs.Send.{fits_next, may_send}
use Rattle.trace_model.proofs.LawLemmas.{goes}
use Rattle.trace_laws.proofs.RepeatLemmas.{repeating-stands}
use Rattle.trace_laws.proofs.Submitted.{is_settled, request-number, settled}
use Rattle.basic_lemmas.proofs.Lists.{first-passes}

-- ---- a fact of each of a list

abbrev pub Each : {X : Type 0} → (X → Type 0) → List X → Type 0
Each P [] = Unit {0}
Each P (x ∷ xs) = P x × Each P xs

each-append : {X : Type 0} (P : X → Type 0) (xs ys : List X) → Each P xs → Each P ys → Each P (xs ++ ys)
each-append P [] ys a b = b
each-append P (x ∷ xs) ys a b = (a.0, each-append P xs ys a.1 b)

each-weaker : {X : Type 0} (P Q : X → Type 0) (t : X → Bool) (xs : List X) → ((x : X) → t x ≡ true → P x → Q x) → list_all t xs ≡ true → Each P xs → Each Q xs
each-weaker P Q t [] h all a = tt
each-weaker P Q t (x ∷ xs) h all a =
    let parts = and_parts (t x) (list_all t xs) all in (h x parts.0 a.0, each-weaker P Q t xs h parts.1 a.1)

first-holds : {X : Type 0} (P : X → Type 0) (p : X → Bool) (y : X) (rest xs : List X) → Each P xs → filter p xs ≡ y ∷ rest → P y
first-holds P p y rest [] all h = absurd (cc)
first-holds P p y rest (x ∷ xs) all h =
    elim (cases_Bool (p x)) [
      | inl kept ↦ (let h' = rw kept at h in let same : x ≡ y = cc in subst P same all.0)
      | inr no' ↦ (let h' = rw no' at h in first-holds P p y rest xs all.1 h')
    ]

-- ---- each item of the queue stands in its command

abbrev pub StandsIn : Script → List Entry → WaitingItem → Type 0
StandsIn script past w = item_at script past w.request.0 w.index ≡ Some w.item

named-stand : (P : WaitingItem → Type 0) (r : RequestId) (k : ℕ) (all items : List Item) → ((j : ℕ) → slice_get items j ≡ slice_get all (k + j)) → ((w : WaitingItem) → w.request.0 ≡ r.0 → slice_get all w.index ≡ Some w.item → P w) → Each P (named r k items)
named-stand P r k all [] at h = tt
named-stand P r k all (item ∷ items) at h =
    let here : slice_get all k ≡ Some item = (let e : k + 0 ≡ k = omega arith in let at' = rw e at (at 0) in sym at') in
    (h (record { request = r; index = k; item = item }) refl here, named-stand P r (k + 1) all items (λ j. let e : k + suc j ≡ (k + 1) + j = omega arith in let at' = rw e at (at (suc j)) in at') h)

new-stand : (P : WaitingItem → Type 0) (r : RequestId) (o : Option Command) → ((w : WaitingItem) → w.request.0 ≡ r.0 → slice_get (items_of o) w.index ≡ Some w.item → P w) → Each P (named r 0 (queued_items o))
new-stand P r (Some (Once item)) h = named-stand P r 0 (item ∷ []) (item ∷ []) (λ j. let e : 0 + j ≡ j = omega arith in rw e refl) h
new-stand P r (Some (Burst items)) h = named-stand P r 0 items items (λ j. let e : 0 + j ≡ j = omega arith in rw e refl) h
new-stand P r o h = tt

pub submitted-stand : (script : Script) (past : List Entry) → IsLegal script past → Each (StandsIn script past) (submitted script past)
submitted-stand script [] legal = tt
submitted-stand script (Call i word (Submitted q) ∷ past) legal =
    let now = Call i word (Submitted q) ∷ past in
    let number = request-number script past i word q legal.0 in
    let old = each-weaker (StandsIn script past) (StandsIn script now) (is_settled script past) (submitted script past)
    (λ w h stands.
    let less = ltb-true w.request.0 (request_count past) (and_parts (nat_lt w.request.0 (request_count past)) (not (is_repeating script past w.request.0)) h).0 in
    let other : (q.0 == w.request.0) ≡ false = ne_eqb q.0 w.request.0 (λ at. absurd (omega (arith, number, less, at))) in
    rw other stands)
    (settled script past legal.1) (submitted-stand script past legal.1) in
    let new = new-stand (StandsIn script now) q (command_at script i)
    (λ w at stands. let here : (q.0 == w.request.0) ≡ true = eq-eqb q.0 w.request.0 (sym at) in rw here stands) in
    each-append (StandsIn script now) (submitted script past) (puts script (Call i word (Submitted q))) old new
submitted-stand script (e ∷ past) legal = rw (append-nil (submitted script past)) (submitted-stand script past legal.1)

-- ---- the next item

-- what the trace says of what a send names is what the next item says
abbrev pub IsNext : Script → List Entry → ℕ → ℕ → Option Queued → Type 0
IsNext script past r i (Some w) = (item_at script past r i ≡ Some w.item) × (is_repeating script past r ≡ w.repeating)
IsNext script past r i None = ⊥

by-names : (script : Script) (past : List Entry) (r q i j : ℕ) (w : Queued) → r ≡ q → i ≡ j → IsNext script past q j (Some w) → IsNext script past r i (Some w)
by-names script past r q i j w a b h = rw (a, b) h

next-cycle : (script : Script) (past : List Entry) (q : Repeating) (k n r i : ℕ) (o : Option Item) (same : Bool) (targets : Four Sent) → IsLegal script past → repeating script past ≡ Some q → slice_get q.items k ≡ o → fits_next script past (next_at q.request k o) n r i same targets ≡ true → IsNext script past r i (next_at q.request k o)
next-cycle script past q k n r i None same targets legal list at may = absurd (false≢true may)
next-cycle script past q k n r i (Some item) same targets legal list at may =
    let w : Queued = record { request = q.request; index = k; item = item; repeating = true } in
    let g = goes script past w n r i same targets may in
    let stands = repeating-stands script past q legal list in
    by-names script past r q.request.0 i k w g.request g.index (rw (stands.0) at, rw (stands.0) refl)

next-by : (script : Script) (past : List Entry) (xs : List WaitingItem) (q : Option Repeating) (n r i : ℕ) (same : Bool) (targets : Four Sent) → IsLegal script past → queued script past ≡ xs → repeating script past ≡ q → fits_next script past (next_from (first_in xs) (next_repeating q past)) n r i same targets ≡ true → IsNext script past r i (next_from (first_in xs) (next_repeating q past))
next-by script past [] None n r i same targets legal at list may = absurd (false≢true may)
next-by script past [] (Some q) n r i same targets legal at list may =
    let k = sent_for q.request.0 past % length q.items in
    next-cycle script past q k n r i (slice_get q.items k) same targets legal list refl may
next-by script past (v ∷ rest) q n r i same targets legal at list may =
    let w : Queued = record { request = v.request; index = v.index; item = v.item; repeating = false } in
    let g = goes script past w n r i same targets may in
    let stands = first-holds (StandsIn script past) (λ x. not (is_taken past x)) v rest (submitted script past) (submitted-stand script past legal) at in
    let once = first-passes (λ x. not (is_taken past x)) (is_settled script past) v rest (submitted script past) (settled script past legal) at in
    by-names script past r v.request.0 i v.index w g.request g.index (stands, not-true (is_repeating script past v.request.0) (and_parts (nat_lt v.request.0 (request_count past)) (not (is_repeating script past v.request.0)) once).1)

pub is-next : (script : Script) (past : List Entry) (n r i : ℕ) (same : Bool) (targets : Four Sent) → IsLegal script past → may_send script past n r i same targets ≡ true → IsNext script past r i (next script past)
is-next script past n r i same targets legal may = next-by script past (queued script past) (repeating script past) n r i same targets legal refl refl may
