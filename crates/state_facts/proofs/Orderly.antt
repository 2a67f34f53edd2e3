-- The rows are few, and their targets in order.
use Rattle.std.proofs.Common.{◌≡◌, ℕ, ◌==◌, ◌+◌, ◌<◌, ◌≤◌, Bool, true, ◌&&◌, ◌||◌, not, List, [], ◌∷◌, Option, Some, None, refl, ◌∙◌, arith, inl, inr, filter, length, map, nat_lt, take, length-append}
use Rattle.std.specs.List.{list_any, list_all}
use Rattle.std.proofs.lemmas.Bool.{and_from, and_parts, cases_Bool, eqb-true, false≢true, ltb-true}
use Rattle.std.proofs.lemmas.List.{length-map}
use Rattle.cam_types.specs.Four.{four_list}
use Rattle.cam_types.specs.declared.four.Four.{Four}
use Rattle.cam_types.specs.declared.item.Item.{Item}
use Rattle.cam_types.specs.declared.script.Script.{Script}
use Rattle.trace_model.specs.declared.entry.Entry.{Entry}
use Rattle.trace_model.specs.declared.entry.Entry.TheVariants.{Send}
use Rattle.trace_model.specs.declared.entry.Sent.{Sent}
use Rattle.trace_model.specs.Frames.{is_sent, targets_of}
use Rattle.trace_model.specs.Legal.{IsLegal}
use Rattle.trace_model.specs.Open.{open_count}
use Rattle.trace_model.specs.Queue.{next}
use Rattle.cam_types.specs.declared.request.Queued.{Queued}
use Rattle.trace_model.specs.Send.{are_streams, fits_next, has_capacity, has_room, may_repeat, targets_in_order}
use Rattle.trace_model.specs.Stopping.{is_stopping}
use Rattle.trace_model.proofs.LawLemmas.{goes}
use Rattle.state_facts.specs.Clients.{repeats}
use Rattle.state_facts.specs.Row.{in_order, is_open_row, new_rows, row_after, open_rows, row_of, sent_settings, target_at}
use Rattle.state_facts.specs.FrameReadings.{RowsFew, RowsOrderly, is_orderly, rise, stream_of}
use Rattle.state_facts.proofs.OpenRows.{count_reads}
use Rattle.state_facts.proofs.Order.{order-sent}
use Rattle.state_facts.proofs.FrameRows.{rows_follow}
use Rattle.basic_lemmas.proofs.Lists.{all-where, map-map, all-filtered, all-mapped}
use Rattle.basic_lemmas.proofs.Counts.{filter-short}

-- ---- few

capacity_by : (script : Script) (past : List Entry) (o : Option Queued) (n r i : ℕ) (same : Bool) (targets : Four Sent) → fits_next script past o n r i same targets ≡ true → open_count past < script.profile.depth
capacity_by script past None n r i same targets h = absurd (false≢true h)
capacity_by script past (Some w) n r i same targets h =
    let first = and_parts (not (is_stopping past)) (has_capacity script past (targets_in_order w.item) && (not w.repeating || may_repeat script past)) (goes script past w n r i same targets h).now in
    let second = and_parts (has_capacity script past (targets_in_order w.item)) (not w.repeating || may_repeat script past) first.1 in
    ltb-true (open_count past) script.profile.depth (and_parts (nat_lt (open_count past) script.profile.depth) (list_all (has_room script past) (targets_in_order w.item)) second.0).0

rows_grow : (script : Script) (past : List Entry) (e : Entry) → IsLegal script (e ∷ past) → length (open_rows script (e ∷ past)) ≤ length (open_rows script past) + length (new_rows (sent_settings script past e) (repeats script past e) e)
rows_grow script past e legal =
    let short = filter-short is_open_row (map (row_after e) (open_rows script past)) in
    let same : length (map (row_after e) (open_rows script past)) ≡ length (open_rows script past) = length-map (open_rows script past) (row_after e) in
    rw (rows_follow script past e legal, length-append) (omega (arith, short, same))

pub rows_few : (script : Script) (past : List Entry) → RowsFew script past
rows_few script [] legal = omega arith
rows_few script (Send n r i same targets ∷ past) legal =
    let room = capacity_by script past (next script past) n.0 r.0 i same targets legal.0 in
    let count = count_reads script past legal.1 in
    let grown = rows_grow script past (Send n r i same targets) legal in
    omega (arith, room, count, grown)
rows_few script (e ∷ past) legal =
    let ih = rows_few script past legal.1 in
    let grown = rows_grow script past e legal in
    omega (arith, ih, grown)

-- ---- in order

rise_kept : (p : ℕ → Bool) (xs : List ℕ) → rise xs ≡ true → rise (filter p xs) ≡ true
rise_kept p [] h = refl
rise_kept p (x ∷ xs) h =
    let parts = and_parts (list_all (λ u. nat_lt x u) xs) (rise xs) h in
    let ih = rise_kept p xs parts.1 in
    elim (cases_Bool (p x)) [ inl kept ↦ rw (kept, all-filtered (λ u. nat_lt x u) p xs parts.0, ih) refl | inr out ↦ rw out ih ]

abbrev pub streams_of : List Sent → List ℕ
streams_of ts = map (λ t. t.stream.0) ts

streams_are : (ts : List Sent) (xs : List ℕ) → are_streams ts xs ≡ true → streams_of ts ≡ xs
streams_are [] [] h = refl
streams_are [] (x ∷ xs) h = absurd (false≢true h)
streams_are (t ∷ ts) [] h = absurd (false≢true h)
streams_are (t ∷ ts) (x ∷ xs) h =
    let parts = and_parts (t.stream.0 == x) (are_streams ts xs) h in
    rw (eqb-true t.stream.0 x parts.0, streams_are ts xs parts.1) refl

abbrev pub is_fine : List ℕ → Bool
is_fine xs = rise xs && list_all (λ s. nat_lt s 4) xs

fine_item : (item : Item) → is_fine (targets_in_order item) ≡ true
fine_item item =
    let p : ℕ → Bool = λ s. list_any (λ t. t == s) (take item.targets.count item.targets.list) in
    let xs : List ℕ = 0 ∷ (1 ∷ (2 ∷ (3 ∷ []))) in
    and_from (rise (filter p xs)) (list_all (λ s. nat_lt s 4) (filter p xs)) (rise_kept p xs refl) (all-filtered (λ s. nat_lt s 4) p xs refl)

fine_by : (script : Script) (past : List Entry) (o : Option Queued) (n r i : ℕ) (same : Bool) (targets : Four Sent) → fits_next script past o n r i same targets ≡ true → is_fine (streams_of (four_list targets)) ≡ true
fine_by script past None n r i same targets h = absurd (false≢true h)
fine_by script past (Some w) n r i same targets h = rw (streams_are (four_list targets) (targets_in_order w.item) (goes script past w n r i same targets h).streams) (fine_item w.item)

pub sent_fine : (script : Script) (past : List Entry) (n : ℕ) → IsLegal script past → is_sent n past ≡ true → is_fine (streams_of (targets_of n past)) ≡ true
sent_fine script [] n legal sent = absurd (false≢true sent)
sent_fine script (Send m r i same targets ∷ past) n legal sent =
    elim (cases_Bool (m.0 == n)) [
      | inl here ↦ rw here (fine_by script past (next script past) m.0 r.0 i same targets legal.0)
      | inr other ↦ (let sent' = rw other at sent in rw other (sent_fine script past n legal.1 sent'))
    ]
sent_fine script (e ∷ past) n legal sent = sent_fine script past n legal.1 sent

row_orderly : (script : Script) (past : List Entry) (n : ℕ) → IsLegal script past → is_sent n past ≡ true → is_orderly (row_of script past n) ≡ true
row_orderly script past n legal sent =
    rw (map-map stream_of (target_at n past) (targets_of n past), all-mapped (λ t. nat_lt (stream_of t) 4) (target_at n past) (targets_of n past), ← all-mapped (λ s. nat_lt s 4) (λ t. t.stream.0) (targets_of n past)) (sent_fine script past n legal sent)

pub rows_orderly : (script : Script) (past : List Entry) → RowsOrderly script past
rows_orderly script past legal =
    all-filtered is_orderly is_open_row (map (row_of script past) (in_order past))
    (all-mapped is_orderly (row_of script past) (in_order past) ∙ all-where (λ n. is_sent n past) (λ n. is_orderly (row_of script past n)) (in_order past) (λ n sent. row_orderly script past n legal sent) (order-sent past))
