-- The next item of a valid script has a name that fits.
use Rattle.std.proofs.Common.{◌≡◌, ℕ, zero, suc, ◌==◌, ◌+◌, ◌%◌, ◌≤◌, Bool, true, false, ◌&&◌, not, List, [], ◌∷◌, ◌++◌, Option, Some, None, refl, arith, inl, inr, length, filter, slice_get, nat_le}
use Rattle.std.specs.List.{list_all}
use Rattle.std.proofs.lemmas.Bool.{cases_Bool, false≢true, and_parts, and_from}
use Rattle.std.proofs.lemmas.List.Folds.{list_all-append}
use Rattle.cam_types.specs.Script.{command_fits, item_fits}
use Rattle.cam_types.specs.declared.item.Item.{Item}
use Rattle.cam_types.specs.declared.reply.Reply.{Reply}
use Rattle.cam_types.specs.declared.reply.Reply.TheVariants.{Ok, Submitted, Configured, Refused}
use Rattle.cam_types.specs.declared.script.Command.{Command}
use Rattle.cam_types.specs.declared.script.Command.TheVariants.{Once, Burst, Repeat}
use Rattle.cam_types.specs.declared.script.Script.{Script}
use Rattle.trace_model.specs.declared.entry.Entry.{Entry}
use Rattle.trace_model.specs.declared.entry.Entry.TheVariants.{Call}
use Rattle.trace_model.specs.Calls.{command_at, command_of, request_count, word_of}
use Rattle.trace_model.specs.Legal.{IsLegal}
use Rattle.trace_model.specs.Numbers.{call_count}
use Rattle.trace_model.specs.Printable.{is_small}
use Rattle.trace_model.specs.Queue.{first_in, is_taken, named, next, next_at, next_from, next_repeating, puts, queued, repeating, sent_for, submitted}
use Rattle.cam_types.specs.Requests.{Repeating}
use Rattle.cam_types.specs.declared.number.RequestId.{RequestId}
use Rattle.cam_types.specs.declared.request.Queued.{Queued}
use Rattle.cam_types.specs.declared.request.WaitingItem.{WaitingItem}
use Rattle.trace_model.specs.Reply.{acceptance, refusal, reply_with}
use Rattle.trace_laws.proofs.Calls.{by-call, requests_bounded}
use Rattle.trace_laws.proofs.RefusedFits.{small}
use Rattle.trace_laws.proofs.Refusals.{refuses, refusal-refuses}
use Rattle.trace_laws.proofs.RepeatLemmas.{Stands, repeating-stands}
use Rattle.trace_laws.proofs.ValidLemmas.{Valid, at-most, queues_few}
use Rattle.basic_lemmas.proofs.Counts.{place-within}
use Rattle.basic_lemmas.proofs.Lists.{all-filtered, all-at}

-- ---- lists

-- ---- the queue

abbrev pub is_named : WaitingItem → Bool
is_named w = is_small w.request.0 && is_small w.index

named_small : (r : RequestId) (i : ℕ) (items : List Item) → is_small r.0 ≡ true → i + length items ≤ 64 → list_all is_named (named r i items) ≡ true
named_small r i [] h few = refl
named_small r i (item ∷ items) h few =
    let place = small i 64 (omega (arith, few)) (omega arith) in
    rw (h, place, named_small r (i + 1) items h (omega (arith, few))) refl

puts_small : (script : Script) (past : List Entry) (i : ℕ) (c : Command) (e : Option Reply) → refuses e ≡ true → command_at script i ≡ Some c → command_fits c ≡ true → is_small (request_count past) ≡ true → list_all is_named (puts script (Call i (word_of c) (reply_with e (acceptance script past c)))) ≡ true
puts_small script past i c (Some (Refused code first second)) h at fits few = refl
puts_small script past i c (Some Ok) h at fits few = absurd (false≢true h)
puts_small script past i c (Some (Submitted r)) h at fits few = absurd (false≢true h)
puts_small script past i c (Some (Configured each)) h at fits few = absurd (false≢true h)
puts_small script past i (Once item) None h at fits few = rw at (named_small (record { 0 = request_count past }) 0 (item ∷ []) few (omega arith))
puts_small script past i (Burst items) None h at fits few = let short = queues_few (Burst items) fits in rw at (named_small (record { 0 = request_count past }) 0 items few (omega (arith, short)))
puts_small script past i (Repeat items) None h at fits few = rw at refl
puts_small script past i c None h at fits few = refl

pub request-small : (script : Script) (past : List Entry) → Valid script → IsLegal script past → is_small (request_count past) ≡ true
request-small script past v legal = let few = requests_bounded script past legal in small (request_count past) 512 (omega (arith, few, v.commands)) (omega arith)

submitted_small : (script : Script) (past : List Entry) → Valid script → IsLegal script past → list_all is_named (submitted script past) ≡ true
submitted_small script [] v legal = refl
submitted_small script (Call i w r ∷ past) v legal =
    let ih = submitted_small script past v legal.1 in
    by-call (λ e. list_all is_named (submitted script past ++ puts script e) ≡ true) script past i w r legal.0
    (λ c at.
    let new = puts_small script past (call_count past) c (refusal script past c) (refusal-refuses script past c) at (all-at command_fits script.commands (call_count past) c v.fit at) (request-small script past v legal.1) in
    rw list_all-append (and_from _ _ ih new))
submitted_small script (e ∷ past) v legal = rw list_all-append (and_from _ _ (submitted_small script past v legal.1) refl)

first_small : (xs : List WaitingItem) (w : WaitingItem) → list_all is_named xs ≡ true → first_in xs ≡ Some w → is_named w ≡ true
first_small [] w all h = absurd (cc)
first_small (x ∷ xs) w all h = let same : x ≡ w = cc in rw same at (and_parts (is_named x) (list_all is_named xs) all).0

pub queued-small : (script : Script) (past : List Entry) (w : WaitingItem) → Valid script → IsLegal script past → first_in (queued script past) ≡ Some w → is_named w ≡ true
queued-small script past w v legal h =
    first_small (queued script past) w (all-filtered is_named (λ x. not (is_taken past x)) (submitted script past) (submitted_small script past v legal)) h

-- ---- the repeating list

command_stands : (script : Script) (past : List Entry) (r : ℕ) (c : Command) → list_all command_fits script.commands ≡ true → command_of script past r ≡ Some c → command_fits c ≡ true
command_stands script [] r c all h = absurd (cc)
command_stands script (Call i w (Submitted q) ∷ past) r c all h =
    elim (cases_Bool (q.0 == r)) [
      | inl own ↦ (let h' = rw own at h in all-at command_fits script.commands i c all h')
      | inr other ↦ (let h' = rw other at h in command_stands script past r c all h')
    ]
command_stands script (Call i w reply ∷ past) r c all h = command_stands script past r c all h
command_stands script (e ∷ past) r c all h = command_stands script past r c all h

cycle_small : (script : Script) (past : List Entry) (q : Repeating) (k : ℕ) (o : Option Item) (w : Queued) → Valid script → IsLegal script past → repeating script past ≡ Some q → slice_get q.items k ≡ o → next_at q.request k o ≡ Some w → (is_small w.request.0 ≡ true) × (is_small w.index ≡ true)
cycle_small script past q k None w v legal list at h = absurd (cc)
cycle_small script past q k (Some item) w v legal list at h =
    let same : record { request = q.request; index = k; item = item; repeating = true } ≡ w = cc in
    let stands : Stands script past q = repeating-stands script past q legal list in
    let fits = command_stands script past q.request.0 (Repeat q.items) v.fit stands.0 in
    let few = at-most (length q.items) 8 (and_parts (nat_le (length q.items) 8) (list_all item_fits q.items) fits).0 in
    let within = place-within q.items k item at in
    let requests = requests_bounded script past legal in
    rw (← same) (small q.request.0 512 (omega (arith, stands.1, requests, v.commands)) (omega arith), small k 8 (omega (arith, few, within)) (omega arith))

next_small : (script : Script) (past : List Entry) (f : Option WaitingItem) (q : Option Repeating) (w : Queued) → Valid script → IsLegal script past → first_in (queued script past) ≡ f → repeating script past ≡ q → next_from f (next_repeating q past) ≡ Some w → (is_small w.request.0 ≡ true) × (is_small w.index ≡ true)
next_small script past (Some x) q w v legal first list h =
    let same : record { request = x.request; index = x.index; item = x.item; repeating = false } ≡ w = cc in
    rw (← same) (and_parts (is_small x.request.0) (is_small x.index) (queued-small script past x v legal first))
next_small script past None None w v legal first list h = absurd (cc)
next_small script past None (Some q) w v legal first list h =
    let k = sent_for q.request.0 past % length q.items in
    cycle_small script past q k (slice_get q.items k) w v legal list refl h

pub next-small : (script : Script) (past : List Entry) (w : Queued) → Valid script → IsLegal script past → next script past ≡ Some w → (is_small w.request.0 ≡ true) × (is_small w.index ≡ true)
next-small script past w v legal h = next_small script past (first_in (queued script past)) (repeating script past) w v legal refl refl h
