-- Each frame that was sent has a target.
use Rattle.std.proofs.Common.{◌≡◌, ℕ, ◌==◌, ◌%◌, Bool, true, false, List, [], ◌∷◌, Option, Some, None, refl, inl, inr, length, slice_get}
use Rattle.std.specs.List.{list_all}
use Rattle.std.proofs.lemmas.Bool.{and_parts, cases_Bool, false≢true}
use Rattle.cam_types.specs.Four.{four_list}
use Rattle.cam_types.specs.declared.four.Four.{Four}
use Rattle.cam_types.specs.declared.item.Item.{Item}
use Rattle.cam_types.specs.declared.script.Script.{Script}
use Rattle.trace_model.specs.declared.entry.Entry.{Entry}
use Rattle.trace_model.specs.declared.entry.Entry.TheVariants.{Send}
use Rattle.trace_model.specs.declared.entry.Sent.{Sent}
use Rattle.trace_model.specs.Frames.{is_sent, targets_of}
use Rattle.trace_model.specs.Legal.{IsLegal}
use Rattle.trace_model.specs.Queue.{first_in, next, next_at, next_from, next_repeating, queued, repeating, sent_for}
use Rattle.cam_types.specs.Requests.{Repeating}
use Rattle.cam_types.specs.declared.request.Queued.{Queued}
use Rattle.cam_types.specs.declared.request.WaitingItem.{WaitingItem}
use Rattle.trace_model.specs.Send.{are_streams, fits_next, targets_in_order}
use Rattle.trace_model.proofs.LawLemmas.{goes}
use Rattle.state_facts.proofs.Listed.{list-served, queue-served}
use Rattle.state_facts.proofs.Served.{is_served, serves, some_of}
use Rattle.basic_lemmas.proofs.Lists.{all-at}

cycle_served : (script : Script) (past : List Entry) (q : Repeating) (k : ℕ) (o : Option Item) (w : Queued) → list_all (is_served script past) q.items ≡ true → slice_get q.items k ≡ o → next_at q.request k o ≡ Some w → is_served script past w.item ≡ true
cycle_served script past q k None w all at h = absurd (cc)
cycle_served script past q k (Some item) w all at h =
    let same : record { request = q.request; index = k; item = item; repeating = true } ≡ w = cc in
    rw (← same) (all-at (is_served script past) q.items k item all at)

pub next_by : (script : Script) (past : List Entry) (xs : List WaitingItem) (q : Option Repeating) (w : Queued) → IsLegal script past → queued script past ≡ xs → repeating script past ≡ q → next_from (first_in xs) (next_repeating q past) ≡ Some w → is_served script past w.item ≡ true
next_by script past (v ∷ vs) q w legal at list h =
    let same : record { request = v.request; index = v.index; item = v.item; repeating = false } ≡ w = cc in
    let all = rw at at (queue-served script past legal) in
    rw (← same) (and_parts (is_served script past v.item) (list_all (λ x. is_served script past x.item) vs) all).0
next_by script past [] None w legal at list h = absurd (cc)
next_by script past [] (Some q) w legal at list h =
    let k = sent_for q.request.0 past % length q.items in
    cycle_served script past q k (slice_get q.items k) w (list-served script past legal q list).1 refl h

abbrev pub has_some : List Sent → Bool
has_some [] = false
has_some (t ∷ ts) = true

some_streams : (ts : List Sent) (xs : List ℕ) → are_streams ts xs ≡ true → some_of xs ≡ true → has_some ts ≡ true
some_streams (t ∷ ts) xs h some = refl
some_streams [] [] h some = absurd (false≢true some)
some_streams [] (x ∷ xs) h some = absurd (false≢true h)

sent_by : (script : Script) (past : List Entry) (o : Option Queued) (n r i : ℕ) (same : Bool) (targets : Four Sent) → IsLegal script past → next script past ≡ o → fits_next script past o n r i same targets ≡ true → has_some (four_list targets) ≡ true
sent_by script past None n r i same targets legal at h = absurd (false≢true h)
sent_by script past (Some w) n r i same targets legal at h =
    let served = next_by script past (queued script past) (repeating script past) w legal refl refl at in
    let some = (and_parts (list_all (serves script past) (targets_in_order w.item)) (some_of (targets_in_order w.item)) served).1 in
    some_streams (four_list targets) (targets_in_order w.item) (goes script past w n r i same targets h).streams some

pub sent-targets : (script : Script) (past : List Entry) (n : ℕ) → IsLegal script past → is_sent n past ≡ true → has_some (targets_of n past) ≡ true
sent-targets script [] n legal sent = absurd (false≢true sent)
sent-targets script (Send m r i same targets ∷ past) n legal sent =
    elim (cases_Bool (m.0 == n)) [
      | inl here ↦ rw here (sent_by script past (next script past) m.0 r.0 i same targets legal.1 refl legal.0)
      | inr other ↦ (let sent' = rw other at sent in rw other (sent-targets script past n legal.1 sent'))
    ]
sent-targets script (e ∷ past) n legal sent = sent-targets script past n legal.1 sent
