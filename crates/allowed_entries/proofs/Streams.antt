-- Targets are for streams 0 to 3, and buffers that are out are those of these streams.
use Rattle.std.proofs.Common.{◌≡◌, ◌∙◌, ◌<◌, ◌≤◌, ℕ, suc, ◌==◌, Bool, true, ◌&&◌, List, [], ◌∷◌, Option, Some, None, refl, sym, ap, arith, inl, inr, length, nat_lt, slice_get, take}
use Rattle.std.specs.List.{list_all, list_any}
use Rattle.std.proofs.lemmas.Bool.{and_from, and_parts, cases_Bool, eqb-true, false≢true, ltb-true}
use Rattle.basic_lemmas.proofs.Lists.{all-filtered}
use Rattle.cam_types.specs.Four.{four_list}
use Rattle.cam_types.specs.declared.four.Four.{Four}
use Rattle.cam_types.specs.declared.item.Item.{Item}
use Rattle.cam_types.specs.declared.reply.Made.{Made}
use Rattle.cam_types.specs.declared.reply.Reply.TheVariants.{Configured}
use Rattle.cam_types.specs.declared.request.Queued.{Queued}
use Rattle.cam_types.specs.declared.script.Script.{Script}
use Rattle.trace_model.specs.declared.entry.Entry.{Entry}
use Rattle.trace_model.specs.declared.entry.Entry.TheVariants.{Call, Send}
use Rattle.trace_model.specs.declared.entry.Sent.{Sent}
use Rattle.trace_model.specs.Configuration.{buffers_of, is_buffer, is_made, made, numbers_of}
use Rattle.trace_model.specs.Frames.{targets_of}
use Rattle.trace_model.specs.Legal.{IsLegal}
use Rattle.trace_model.specs.Numbers.{next_number}
use Rattle.trace_model.specs.Printable.{is_filled}
use Rattle.trace_model.specs.Queue.{next}
use Rattle.trace_model.specs.Send.{are_streams, fits_next, is_same_bool, mark_of, may_go, takes_from_pool, targets_in_order}
use Rattle.judge_rules.proofs.StreamLemmas.{any_in_range}

abbrev is_low : Sent → Bool
is_low t = nat_lt t.stream.0 4

streams-low : (targets : List Sent) (streams : List ℕ) → are_streams targets streams ≡ true → list_all (λ s. nat_lt s 4) streams ≡ true → list_all is_low targets ≡ true
streams-low [] streams are low = refl
streams-low (t ∷ targets) [] are low = absurd (false≢true are)
streams-low (t ∷ targets) (s ∷ streams) are low =
    let parts = and_parts (t.stream.0 == s) (are_streams targets streams) are in
    let lows = and_parts (nat_lt s 4) (list_all (λ u. nat_lt u 4) streams) low in
    let same : t.stream.0 ≡ s = eqb-true t.stream.0 s parts.0 in
    and_from (is_low t) (list_all is_low targets) (ap (λ k. nat_lt k 4) same ∙ lows.0) (streams-low targets streams parts.1 lows.1)

asked-low : (item : Item) → list_all (λ s. nat_lt s 4) (targets_in_order item) ≡ true
asked-low item = all-filtered (λ s. nat_lt s 4) (λ s. list_any (λ t. t == s) (take item.targets.count item.targets.list)) (0 ∷ (1 ∷ (2 ∷ (3 ∷ [])))) refl

send-low : (script : Script) (past : List Entry) (o : Option Queued) (n r i : ℕ) (same : Bool) (targets : Four Sent) → fits_next script past o n r i same targets ≡ true → list_all is_low (four_list targets) ≡ true
send-low script past None n r i same targets fits = absurd (false≢true fits)
send-low script past (Some q) n r i same targets fits =
    let streams = are_streams (four_list targets) (targets_in_order q.item) in
    let taken = is_filled targets && list_all (takes_from_pool past) (four_list targets) in
    let marked = is_same_bool same (mark_of script past q.item.settings) in
    let named = (n == next_number past) && ((r == q.request.0) && (i == q.index)) in
    let rest = (and_parts named (may_go script past q && ((streams && taken) && marked)) fits).1 in
    let last = (and_parts (may_go script past q) ((streams && taken) && marked) rest).1 in
    let front = (and_parts (streams && taken) marked last).0 in
    streams-low (four_list targets) (targets_in_order q.item) (and_parts streams taken front).0 (asked-low q.item)

-- the targets of each frame of a legal trace
targets-low : (script : Script) (past : List Entry) (n : ℕ) → IsLegal script past → list_all is_low (targets_of n past) ≡ true
targets-low script [] n legal = refl
targets-low script (Send m r i same targets ∷ past) n legal =
    elim (cases_Bool (m.0 == n)) [
      | inl here ↦ rw here (send-low script past (next script past) m.0 r.0 i same targets legal.0)
      | inr other ↦ rw other (targets-low script past n legal.1)
    ]
targets-low script (e ∷ past) n legal = targets-low script past n legal.1

any-low : (targets : List Sent) (s : ℕ) → list_all is_low targets ≡ true → list_any (λ t. t.stream.0 == s) targets ≡ true → s < 4
any-low [] s low there = absurd (false≢true there)
any-low (t ∷ targets) s low there =
    let lows = and_parts (is_low t) (list_all is_low targets) low in
    elim (cases_Bool (t.stream.0 == s)) [
      | inl here ↦ (let same : t.stream.0 ≡ s = eqb-true t.stream.0 s here in ltb-true s 4 (ap (λ k. nat_lt k 4) (sym same) ∙ lows.0))
      | inr other ↦ any-low targets s lows.1 (rw other at there)
    ]

pub stream-low : (script : Script) (past : List Entry) (n s : ℕ) → IsLegal script past → list_any (λ t. t.stream.0 == s) (targets_of n past) ≡ true → s < 4
stream-low script past n s legal there = any-low (targets_of n past) s (targets-low script past n legal) there

-- ---- buffers

four-short : {X : Type 0} (f : Four X) → length (four_list f) ≤ 4
four-short f = grind arith

made-short : (past : List Entry) → length (made past) ≤ 4
made-short [] = omega arith
made-short (Call i word (Configured each) ∷ past) = four-short each
made-short (e ∷ past) = made-short past

in-made : (b : ℕ) (ms : List Made) → list_any (is_made b) ms ≡ true → (s : ℕ) × ((s < length ms) × (list_any (λ c. c == b) (numbers_of (slice_get ms s)) ≡ true))
in-made b [] there = absurd (false≢true there)
in-made b (m ∷ ms) there =
    elim (cases_Bool (is_made b m)) [
      | inl here ↦ (0, (omega arith, any_in_range b m.first.0 m.count ∙ here))
      | inr other ↦ (let found = in-made b ms (rw other at there) in (suc found.0, (omega (arith, found.1.0), found.1.1)))
    ]

-- one of the configuration's buffers is one of a stream's
pub buffer-stream : (past : List Entry) (b : ℕ) → is_buffer past b ≡ true → (s : ℕ) × ((s < 4) × (list_any (λ c. c == b) (buffers_of past s) ≡ true))
buffer-stream past b there =
    let found = in-made b (made past) there in
    (found.0, (omega (arith, found.1.0, made-short past), found.1.1))
