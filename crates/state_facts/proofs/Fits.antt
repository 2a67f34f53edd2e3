-- Each number of the state of a legal run of a valid script fits its type.
use Rattle.std.proofs.Common.{◌≡◌, ℕ, ◌==◌, ◌+◌, ◌^◌, ◌%◌, ◌<◌, ◌≤◌, Bool, true, ◌&&◌, not, List, [], ◌∷◌, Option, Some, None, refl, ◌∙◌, arith, inl, inr, filter, length, map, nat_le, nat_lt, append-nil}
use Rattle.std.specs.List.{list_all}
use Rattle.std.proofs.Math.Nat.{mod-le}
use Rattle.std.proofs.lemmas.Bool.{and_from, and_parts, cases_Bool, eqb-true}
use Rattle.std.proofs.lemmas.Bool.Decides.{nat_tests}
use Rattle.std.proofs.lemmas.List.Folds.{list_all-append}
use Rattle.cam_types.specs.Four.{four_list}
use Rattle.cam_types.specs.Script.{command_fits, is_valid}
use Rattle.cam_types.specs.declared.item.Item.{Item}
use Rattle.cam_types.specs.declared.number.RequestId.{RequestId}
use Rattle.cam_types.specs.declared.reply.Reply.TheVariants.{Submitted}
use Rattle.cam_types.specs.declared.script.Command.{Command}
use Rattle.cam_types.specs.declared.script.Script.{Script}
use Rattle.cam_types.specs.Requests.{Repeating}
use Rattle.trace_model.specs.declared.entry.Entry.{Entry}
use Rattle.trace_model.specs.declared.entry.Entry.TheVariants.{Call, Send, Shutter, Partial, Failed, Release, Early}
use Rattle.trace_model.specs.declared.entry.Sent.{Sent}
use Rattle.trace_model.specs.Calls.{command_at, is_repeating}
use Rattle.trace_model.specs.Client.{before_begin, done_since_begin}
use Rattle.trace_model.specs.Entry.{is_numbering, is_partial, names, sends, sends_for}
use Rattle.trace_model.specs.Fence.{early_fence_after, early_fence_of, fence_after, fence_of}
use Rattle.trace_model.specs.Frames.{frames, is_repeating_frame, is_sent, send_of, shutter_time, targets_in, targets_of}
use Rattle.trace_model.specs.Legal.{IsLegal}
use Rattle.trace_model.specs.Configuration.{made}
use Rattle.trace_model.specs.Numbers.{next_number}
use Rattle.trace_model.specs.Open.{early_fences, is_done}
use Rattle.trace_model.specs.Partial.{partial_count}
use Rattle.trace_model.specs.Place.{last_naming}
use Rattle.trace_model.specs.Printable.{fence_fits, is_filled, is_printable, is_small, sent_fits}
use Rattle.trace_model.specs.Queue.{is_taken, named, queued, queued_items, repeating, sent_for, submitted}
use Rattle.trace_model.specs.Send.{repeated_since_call}
use Rattle.trace_model.specs.Shutter.{next_time}
use Rattle.trace_laws.specs.Bounds.{time_bound}
use Rattle.trace_laws.specs.Typed.{is_typed}
use Rattle.trace_laws.proofs.Calls.{calls_bounded, requests_bounded}
use Rattle.trace_laws.proofs.EarlyLemmas.{earlies_bounded}
use Rattle.trace_laws.proofs.FenceLemmas.{fences_bounded}
use Rattle.trace_laws.proofs.FrameLemmas.{frames_bounded, sends_bounded}
use Rattle.trace_laws.proofs.Printing.{prints_all}
use Rattle.trace_laws.proofs.RepeatLemmas.{repeating-stands}
use Rattle.trace_laws.proofs.StreamLemmas.{few-made, low-fits, made-all-low}
use Rattle.trace_laws.proofs.TimeLemmas.{next-time-bounded}
use Rattle.trace_laws.proofs.ValidLemmas.{Valid, bounds_most, queues_few, valid}
use Rattle.trace_laws.proofs.Parts.{part-is}
use Rattle.trace_laws.proofs.Sends.{sent-below}
use Rattle.trace_laws.proofs.Submitted.{request-number}
use Rattle.state_facts.specs.Turns.{placed}
use Rattle.state_facts.specs.Homes.{numbers}
use Rattle.state_facts.proofs.BufferReadings.{earlies_are, fences_are, made_is}
use Rattle.state_facts.specs.Row.{in_order, is_open_row, open_rows, row_of, target_at}
use Rattle.state_facts.proofs.Order.{order-sent}
use Rattle.state_facts.specs.States.{state}
use Rattle.state_facts.specs.Fits.{NumbersFit, device_fence_fits, row_fits, target_fits, time_fits, turn_fits, waiting_fits}
use Rattle.basic_lemmas.proofs.Counts.{count-cons, count-one, count-over}
use Rattle.basic_lemmas.proofs.Lists.{all-filtered, all-at, all-map, all-mapped, all-found, all-where}

small : (n m : ℕ) → n ≤ m → m ≤ 300000 → is_small n ≡ true
small n m l k = grind (arith, nat_tests)

below : (n m : ℕ) → n ≤ m → m ≤ 300000 → n < 2 ^ 32
below n m l k = omega (arith, l, k)

-- ---- what waits and what repeats

named-fit : (r : RequestId) (k : ℕ) (items : List Item) → is_small r.0 ≡ true → k + length items ≤ 64 → list_all waiting_fits (named r k items) ≡ true
named-fit r k [] h few = refl
named-fit r k (item ∷ items) h few =
    let place = small k 64 (omega (arith, few)) (omega arith) in
    rw (h, place, named-fit r (k + 1) items h (omega (arith, few))) refl

items-few : (script : Script) (i : ℕ) (o : Option Command) → Valid script → command_at script i ≡ o → length (queued_items o) ≤ 32
items-few script i None v at = omega arith
items-few script i (Some c) v at = queues_few c (all-at command_fits script.commands i c v.fit at)

submitted-fit : (script : Script) (past : List Entry) → Valid script → IsLegal script past → list_all waiting_fits (submitted script past) ≡ true
submitted-fit script [] v legal = refl
submitted-fit script (Call i word (Submitted q) ∷ past) v legal =
    let number = request-number script past i word q legal.0 in
    let few = requests_bounded script past legal.1 in
    let own = small q.0 512 (omega (arith, number, few, v.commands)) (omega arith) in
    let short = items-few script i (command_at script i) v refl in
    let new = named-fit q 0 (queued_items (command_at script i)) own (omega (arith, short)) in
    rw list_all-append (and_from _ _ (submitted-fit script past v legal.1) new)
submitted-fit script (e ∷ past) v legal = rw (append-nil (submitted script past)) (submitted-fit script past v legal.1)

queued-fit : (script : Script) (past : List Entry) → Valid script → IsLegal script past → list_all waiting_fits (queued script past) ≡ true
queued-fit script past v legal = all-filtered waiting_fits (λ w. not (is_taken past w)) (submitted script past) (submitted-fit script past v legal)

sent-few : (r : ℕ) (past : List Entry) → sent_for r past ≤ next_number past
sent-few r [] = omega arith
sent-few r (Send n q i same targets ∷ past) =
    let ih = sent-few r past in
    let one = count-cons is_numbering (Send n q i same targets) past in
    elim (cases_Bool (q.0 == r)) [
      | inl here ↦ (let own = count-one (sends_for r) (Send n q i same targets) past here in omega (arith, ih, one, own))
      | inr other ↦ (let own = count-over (sends_for r) (Send n q i same targets) past other in omega (arith, ih, one, own))
    ]
sent-few r (e ∷ past) =
    let ih = sent-few r past in
    let one = count-cons is_numbering e past in
    let own = count-cons (sends_for r) e past in
    omega (arith, ih, one, own)

turn-fits : (script : Script) (past : List Entry) (o : Option Repeating) → Valid script → next_number past ≤ 65664 → IsLegal script past → repeating script past ≡ o → turn_fits (placed past o) ≡ true
turn-fits script past None v few legal at = refl
turn-fits script past (Some q) v few legal at =
    let stands = repeating-stands script past q legal at in
    let requests = requests_bounded script past legal in
    let own = small q.request.0 512 (omega (arith, stands.1, requests, v.commands)) (omega arith) in
    let low = mod-le (sent_for q.request.0 past) (length q.items) in
    let sent = sent-few q.request.0 past in
    let place = small (sent_for q.request.0 past % length q.items) 65664 (omega (arith, low, sent, few)) (omega arith) in
    and_from _ _ own place

-- ---- fences of buffers

fence-fits : (past : List Entry) (b : ℕ) (o : Option Entry) → list_all is_printable past ≡ true → last_naming b past ≡ o → fence_fits (fence_after o) ≡ true
fence-fits past b None all at = refl
fence-fits past b (Some (Release c f)) all at = (and_parts (is_small c.0) (is_small f.0) (all-found is_printable (names b) past (Release c f) all at)).1
fence-fits past b (Some (Failed n s c f)) all at = (and_parts _ (fence_fits f) (all-found is_printable (names b) past (Failed n s c f) all at)).1
fence-fits past b (Some _) all at = refl

held-fits : (past : List Entry) (b : ℕ) (o : Option Entry) → list_all is_printable past ≡ true → last_naming b past ≡ o → device_fence_fits (early_fence_after o) ≡ true
held-fits past b None all at = refl
held-fits past b (Some (Early n s c d)) all at = (and_parts _ (is_small d.0) (all-found is_printable (names b) past (Early n s c d) all at)).1
held-fits past b (Some _) all at = refl

-- ---- rows

time-fits : (n : ℕ) (past : List Entry) → list_all is_printable past ≡ true → time_fits (shutter_time n past) ≡ true
time-fits n [] all = refl
time-fits n (Shutter m time ∷ past) all =
    let parts = and_parts (is_printable (Shutter m time)) (list_all is_printable past) all in
    elim (cases_Bool (m.0 == n)) [
      | inl here ↦ rw here (and_parts (is_small m.0) (nat_lt time (2 ^ 64)) parts.0).1
      | inr other ↦ rw other (time-fits n past parts.1)
    ]
time-fits n (e ∷ past) all = time-fits n past (and_parts (is_printable e) (list_all is_printable past) all).1

pub parts-few : (script : Script) (past : List Entry) (n : ℕ) → IsLegal script past → partial_count n past ≤ 3
parts-few script [] n legal = omega arith
parts-few script (Partial m k part ∷ past) n legal =
    let ih = parts-few script past n legal.1 in
    let is = part-is script past m k part legal.0 in
    elim (cases_Bool (m.0 == n)) [
      | inl here ↦ (
          let number : k ≡ partial_count n past + 1 = rw (eqb-true m.0 n here) at is.number in
          let one = count-one (is_partial n) (Partial m k part) past here in
          omega (arith, number, is.short, one)
          )
      | inr other ↦ (let same = count-over (is_partial n) (Partial m k part) past other in omega (arith, ih, same))
    ]
parts-few script (e ∷ past) n legal =
    let ih = parts-few script past n legal.1 in
    let one = count-cons (is_partial n) e past in
    omega (arith, ih, one)

given-fit : (n s : ℕ) (past : List Entry) → list_all is_printable past ≡ true → list_all is_small (early_fences n s past) ≡ true
given-fit n s [] all = refl
given-fit n s (Early m t b d ∷ past) all =
    let parts = and_parts (is_printable (Early m t b d)) (list_all is_printable past) all in
    let own = (and_parts _ (is_small d.0) parts.0).1 in
    elim (cases_Bool ((m.0 == n) && (t.0 == s))) [
      | inl here ↦ rw (here, own) (given-fit n s past parts.1)
      | inr other ↦ rw other (given-fit n s past parts.1)
    ]
given-fit n s (e ∷ past) all = given-fit n s past (and_parts (is_printable e) (list_all is_printable past) all).1

targets-fit : (past : List Entry) (n : ℕ) (o : Option Entry) → list_all is_printable past ≡ true → send_of n past ≡ o → list_all sent_fits (targets_in o) ≡ true
targets-fit past n None all at = refl
targets-fit past n (Some (Send m r i same targets)) all at =
    let fits = all-found is_printable (sends n) past (Send m r i same targets) all at in
    (and_parts (is_filled targets) (list_all sent_fits (four_list targets)) (and_parts _ (is_filled targets && list_all sent_fits (four_list targets)) fits).1).1
targets-fit past n (Some _) all at = refl

rows-targets-fit : (past : List Entry) (n : ℕ) (targets : List Sent) → list_all is_printable past ≡ true → list_all sent_fits targets ≡ true → list_all target_fits (map (target_at n past) targets) ≡ true
rows-targets-fit past n [] all fits = refl
rows-targets-fit past n (t ∷ targets) all fits =
    let parts = and_parts (sent_fits t) (list_all sent_fits targets) fits in
    and_from _ _ (and_from (sent_fits t) _ parts.0 (given-fit n t.stream.0 past all)) (rows-targets-fit past n targets all parts.1)

row-fits : (script : Script) (past : List Entry) (n : ℕ) → next_number past ≤ 65664 → list_all is_printable past ≡ true → IsLegal script past → is_sent n past ≡ true → row_fits (row_of script past n) ≡ true
row-fits script past n few all legal sent =
    let low = sent-below script past n legal sent in
    let frame = small n 65664 (omega (arith, low, few)) (omega arith) in
    let short = parts-few script past n legal in
    let parts : nat_le (partial_count n past) 3 ≡ true = grind (arith, nat_tests, short) in
    and_from _ _ frame (and_from _ _ (time-fits n past all) (and_from _ _ parts (rows-targets-fit past n (targets_of n past) all (targets-fit past n (send_of n past) all refl))))

rows-fit : (script : Script) (past : List Entry) → next_number past ≤ 65664 → list_all is_printable past ≡ true → IsLegal script past → list_all row_fits (open_rows script past) ≡ true
rows-fit script past few all legal =
    all-filtered row_fits is_open_row (map (row_of script past) (in_order past))
    (all-mapped row_fits (row_of script past) (in_order past) ∙ all-where (λ n. is_sent n past) (λ n. row_fits (row_of script past n)) (in_order past) (λ n sent. row-fits script past n few all legal sent) (order-sent past))

-- ---- counts of the client

repeated-few : (script : Script) (past : List Entry) → repeated_since_call script past ≤ next_number past
repeated-few script [] = omega arith
repeated-few script (Call i word reply ∷ past) = omega arith
repeated-few script (Send n r i same targets ∷ past) =
    let ih = repeated-few script past in
    let one = count-cons is_numbering (Send n r i same targets) past in
    elim (cases_Bool (is_repeating script past r.0)) [
      | inl yes' ↦ rw yes' (omega (arith, ih, one))
      | inr no' ↦ rw no' (omega (arith, ih, one))
    ]
repeated-few script (e ∷ past) =
    let ih = repeated-few script past in
    let one = count-cons is_numbering e past in
    omega (arith, ih, one)

kept-few : (p : ℕ → Bool) (xs : List ℕ) → length (filter p xs) ≤ length xs
kept-few p [] = omega arith
kept-few p (x ∷ xs) =
    let ih = kept-few p xs in
    elim (cases_Bool (p x)) [ inl yes' ↦ rw yes' (omega (arith, ih)) | inr no' ↦ rw no' (omega (arith, ih)) ]

done-few : (script : Script) (past : List Entry) → done_since_begin script past ≤ length (frames past)
done-few script past = kept-few (λ n. is_repeating_frame script past n && (is_done n past && not (is_done n (before_begin past)))) (frames past)

-- ---- all of it

clock-below : (t b : ℕ) → t ≤ b → b ≤ 6567400000000 → t < 2 ^ 64
clock-below t b l k = omega (arith, l, k)

pub numbers_fit : (script : Script) (past : List Entry) → is_typed script ≡ true → is_valid script ≡ true → IsLegal script past → NumbersFit (state script past)
numbers_fit script past typed valid' legal =
    let v = valid script valid' in
    let most = bounds_most script valid' in
    let given_away = frames_bounded script past legal in
    let few : next_number past ≤ 65664 = omega (arith, given_away, most.0) in
    let sent = sends_bounded script past legal in
    let all = prints_all script past typed valid' legal in
    let requests = requests_bounded script past legal in
    let calls = calls_bounded script past legal in
    let fences = fences_bounded script past legal in
    let earlies = earlies_bounded script past legal in
    let released = fences_are past in
    let given = earlies_are past in
    let buffers = few-made script past v legal in
    let homes = made_is past in
    let repeated = repeated-few script past in
    let done = done-few script past in
    record {
      frames = below _ 65664 few (omega arith);
      requests = below _ 512 (omega (arith, requests, v.commands)) (omega arith);
      waiting = queued-fit script past v legal;
      turn = turn-fits script past (repeating script past) v few legal refl;
      buffers = below _ 36864 (omega (arith, buffers, homes)) (omega arith);
      made = low-fits (made past) (made-all-low script past v legal);
      fences = below _ 262656 (omega (arith, released, fences, most.1)) (omega arith);
      device_fences = below _ 262656 (omega (arith, given, earlies, most.2)) (omega arith);
      at_home = all-map fence_fits (λ b. fence_of b past) (numbers past) (λ b. fence-fits past b (last_naming b past) all refl);
      held = all-map device_fence_fits (λ b. early_fence_of b past) (numbers past) (λ b. held-fits past b (last_naming b past) all refl);
      calls = below _ 512 (omega (arith, calls, v.commands)) (omega arith);
      repeated = below _ 65664 (omega (arith, repeated, few)) (omega arith);
      done = below _ 65664 (omega (arith, done, sent, most.0)) (omega arith);
      rows = rows-fit script past few all legal;
      clock = clock-below (next_time script past) (time_bound script) (next-time-bounded script past legal) most.4;
    }
