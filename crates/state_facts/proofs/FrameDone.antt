-- How many repeating frames were done with since the last begin, entry by entry.
use Rattle.std.proofs.Common.{◌≡◌, ℕ, ◌+◌, Bool, true, false, ◌&&◌, not, List, [], ◌∷◌, Option, Some, None, refl, sym, ap, ◌∙◌, arith, inl, inr, ◌⊎◌, count_by, find, map, if◌then◌else◌}
use Rattle.std.specs.List.{list_all}
use Rattle.std.proofs.lemmas.Bool.{and_parts, cases_Bool, eq-eqb, false≢true, or_right}
use Rattle.cam_types.specs.declared.four.Four.{Four}
use Rattle.cam_types.specs.declared.number.BufferId.{BufferId}
use Rattle.cam_types.specs.declared.number.DeviceFenceNo.{DeviceFenceNo}
use Rattle.cam_types.specs.declared.number.FrameNo.{FrameNo}
use Rattle.cam_types.specs.declared.number.RequestId.{RequestId}
use Rattle.cam_types.specs.declared.number.StreamIx.{StreamIx}
use Rattle.cam_types.specs.declared.script.Script.{Script}
use Rattle.trace_model.specs.declared.entry.Entry.{Entry}
use Rattle.trace_model.specs.declared.entry.Entry.TheVariants.{Begin, Early, ErrorRequest, ErrorResult, Failed, Filled, Late, Partial, Send}
use Rattle.trace_model.specs.declared.entry.Sent.{Sent}
use Rattle.trace_model.specs.Client.{before_begin, done_since_begin}
use Rattle.trace_model.specs.Entry.{is_early_with, sends}
use Rattle.trace_model.specs.Fence.{is_late}
use Rattle.trace_model.specs.Frames.{frames, is_repeating_frame, is_sent}
use Rattle.trace_model.specs.Legal.{IsLegal}
use Rattle.trace_model.specs.Open.{all_settled, is_done, is_metadata_ended}
use Rattle.trace_laws.proofs.BufferSends.{frames-sent, not-the-next, send-number}
use Rattle.trace_laws.proofs.Done.{done-before, done-stays}
use Rattle.trace_laws.proofs.Early.{given}
use Rattle.trace_laws.proofs.Shapes.{late-is}
use Rattle.state_facts.specs.Clients.{ends_frame}
use Rattle.state_facts.specs.Row.{Row, in_order, is_open_row, row_after, open_rows, row_of}
use Rattle.state_facts.specs.FrameReadings.{DoneReads, LastReads, closes, closes_one, has_pending, row_at}
use Rattle.state_facts.proofs.Accepted.{repeating-kept}
use Rattle.state_facts.proofs.Late.{the_row}
use Rattle.state_facts.proofs.OpenRows.{row-found, row-open}
use Rattle.state_facts.proofs.Order.{count-order, order-sent}
use Rattle.state_facts.proofs.Pairs.{count-length, count-rows, count-where}
use Rattle.state_facts.proofs.FrameRows.{new_row, not_sent, row-step}
use Rattle.state_facts.proofs.Unsent.{unsent}
use Rattle.basic_lemmas.proofs.Counts.{count-over, count-cons}
use Rattle.basic_lemmas.proofs.Lists.{all-found, filtered-all, filter-none}
use Rattle.basic_lemmas.proofs.Tests.{and-true}

-- a frame is done with where it was sent and its row is closed
done-closed : (script : Script) (past : List Entry) (n : ℕ) → IsLegal script past → is_sent n past ≡ true → is_done n past ≡ not (is_open_row (row_of script past n))
done-closed script past n legal sent = rw (row-open script past n legal sent, sent) (by (is_metadata_ended n past && all_settled n past))
  where
    by : (a : Bool) → a ≡ not (not a)
    by true = refl
    by false = refl

-- ---- the count

-- the frame is a repeating one, and was done with since the last begin
abbrev pub counted : Script → List Entry → ℕ → Bool
counted script past n = is_repeating_frame script past n && (is_done n past && not (is_done n (before_begin past)))

-- what one of three tests adds
split_count : {X : Type 0} (s p q t : X → Bool) (xs : List X) → ((x : X) → s x ≡ true → (p x ≡ q x) × (t x ≡ false) ⊎ (p x ≡ true) × (q x ≡ false) × (t x ≡ true)) → list_all s xs ≡ true → count_by p xs ≡ count_by q xs + count_by t xs
split_count s p q t [] one all = omega arith
split_count s p q t (x ∷ xs) one all =
    let parts = and_parts (s x) (list_all s xs) all in
    let ih = split_count s p q t xs one parts.1 in
    let a = count-cons p x xs in
    let b = count-cons q x xs in
    let c = count-cons t x xs in
    elim (one x parts.0) [
      | inl same ↦ (
          let a' : ◌≡◌ {A = ℕ} (if p x then 1 else 0) (if q x then 1 else 0) = rw same.0 refl in
          let c' : ◌≡◌ {A = ℕ} (if t x then 1 else 0) 0 = rw same.1 refl in
          omega (arith, ih, a, b, c, a', c')
          )
      | inr more ↦ (
          let a' : ◌≡◌ {A = ℕ} (if p x then 1 else 0) 1 = rw more.0 refl in
          let b' : ◌≡◌ {A = ℕ} (if q x then 1 else 0) 0 = rw more.1 refl in
          let c' : ◌≡◌ {A = ℕ} (if t x then 1 else 0) 1 = rw more.2 refl in
          omega (arith, ih, a, b, c, a', b', c')
          )
    ]

abbrev pub closed_now : Entry → Row → Bool
closed_now e r = is_open_row r && closes e r

one_frame : (r d d' b : Bool) → (b ≡ true → d ≡ true) → (d ≡ true → d' ≡ true) → ((r && (d' && not b)) ≡ (r && (d && not b))) × ((not d && (r && d')) ≡ false) ⊎ ((r && (d' && not b)) ≡ true) × ((r && (d && not b)) ≡ false) × ((not d && (r && d')) ≡ true)
one_frame false true d' b from to = inl (refl, refl)
one_frame false false d' b from to = inl (refl, refl)
one_frame true true true b from to = inl (refl, refl)
one_frame true true false b from to = absurd (false≢true (to refl))
one_frame true false d' true from to = absurd (false≢true (from refl))
one_frame true false true false from to = inr (refl, refl, refl)
one_frame true false false false from to = inl (refl, refl)

frame_counts : (script : Script) (past : List Entry) (e : Entry) (n : ℕ) → IsLegal script (e ∷ past) → before_begin (e ∷ past) ≡ before_begin past → is_sent n past ≡ true → sends n e ≡ false → (counted script (e ∷ past) n ≡ counted script past n) × (closed_now e (row_of script past n) ≡ false) ⊎ (counted script (e ∷ past) n ≡ true) × (counted script past n ≡ false) × (closed_now e (row_of script past n) ≡ true)
frame_counts script past e n legal same sent other =
    let row = row_of script past n in
    let step = row-step script past e n legal sent in
    let now : is_done n (e ∷ past) ≡ not (is_open_row (row_after e row)) = done-closed script (e ∷ past) n legal (or_right (sends n e) (is_sent n past) sent) ∙ ap (λ r. not (is_open_row r)) step in
    let was : is_open_row row ≡ not (is_done n past) = row-open script past n legal.1 sent ∙ open-not (is_sent n past) (is_metadata_ended n past && all_settled n past) sent in
    let to : counted script (e ∷ past) n ≡ (is_repeating_frame script past n && (is_done n (e ∷ past) && not (is_done n (before_begin past)))) = rw (repeating-kept script past e n legal sent other, same) refl in
    let closing : closed_now e row ≡ (not (is_done n past) && (is_repeating_frame script past n && is_done n (e ∷ past))) = rw (was, now) refl in
    let all = one_frame (is_repeating_frame script past n) (is_done n past) (is_done n (e ∷ past)) (is_done n (before_begin past)) (λ h. done-before script past n legal.1 h) (λ h. done-stays script past e n legal.1 legal.0 h) in
    rw (to, closing) all
  where
    open-not : (s a : Bool) → s ≡ true → (s && not a) ≡ not (s && a)
    open-not true a h = refl
    open-not false a h = absurd (false≢true h)

rows_closed : (script : Script) (past : List Entry) (e : Entry) → count_by (λ n. closed_now e (row_of script past n)) (frames past) ≡ count_by (closes e) (open_rows script past)
rows_closed script past e =
    let same = count-where is_open_row (closes e) (closed_now e) (open_rows script past) (λ r here. rw here refl) (filtered-all is_open_row (map (row_of script past) (in_order past))) in
    let rows = count-rows (λ n. is_sent n past) is_open_row (closed_now e) (row_of script past) (in_order past) (λ n sent gone. rw gone refl) (order-sent past) in
    sym (count-order (λ n. closed_now e (row_of script past n)) past) ∙ (sym rows ∙ sym same)

counts_more : (script : Script) (past : List Entry) (e : Entry) → IsLegal script (e ∷ past) → before_begin (e ∷ past) ≡ before_begin past → ((n : ℕ) → is_sent n past ≡ true → sends n e ≡ false) → count_by (counted script (e ∷ past)) (frames past) ≡ done_since_begin script past + count_by (closes e) (open_rows script past)
counts_more script past e legal same other =
    let split = split_count (λ n. is_sent n past) (counted script (e ∷ past)) (counted script past) (λ n. closed_now e (row_of script past n)) (frames past) (λ n sent. frame_counts script past e n legal same sent (other n sent)) (frames-sent past) in
    let before = count-length (counted script past) (frames past) in
    let rows = rows_closed script past e in
    omega (arith, split, before, rows)

new_open : (script : Script) (past : List Entry) (n : FrameNo) (r : RequestId) (i : ℕ) (same : Bool) (targets : Four Sent) → IsLegal script (Send n r i same targets ∷ past) → counted script (Send n r i same targets ∷ past) n.0 ≡ false
new_open script past n r i same targets legal =
    let e = Send n r i same targets in
    let fresh = unsent script past n.0 legal.1 (not_sent script past n.0 legal.1 (send-number script past n.0 r.0 i same targets legal.0)) in
    let here : is_sent n.0 (e ∷ past) ≡ true = rw (eq-eqb n.0 n.0 refl) refl in
    let not-done : is_done n.0 (e ∷ past) ≡ false = done-closed script (e ∷ past) n.0 legal here ∙ ap (λ row. not (is_open_row row)) (new_row script past n r i same targets fresh) in
    rw not-done (never (is_repeating_frame script (e ∷ past) n.0))
  where
    never : (a : Bool) → (a && false) ≡ false
    never true = refl
    never false = refl

pub done_reads : (script : Script) (past : List Entry) (e : Entry) → DoneReads script past e
done_reads script past (Begin w) legal = rw (filter-none (counted script (Begin w ∷ past)) (frames past) (λ n. never (is_repeating_frame script (Begin w ∷ past) n) (is_done n past))) refl
  where
    never : (a b : Bool) → (a && (b && not b)) ≡ false
    never true true = refl
    never true false = refl
    never false b = refl
done_reads script past (Send n r i same targets) legal =
    let e = Send n r i same targets in
    let more = counts_more script past e legal refl (λ m sent. not-the-next script past n.0 m legal.1 (send-number script past n.0 r.0 i same targets legal.0) sent) in
    let over = count-over (counted script (e ∷ past)) n.0 (frames past) (new_open script past n r i same targets legal) in
    count-length (counted script (e ∷ past)) (frames (e ∷ past)) ∙ (over ∙ more)
done_reads script past e legal = count-length (counted script (e ∷ past)) (frames past) ∙ counts_more script past e legal refl (λ n sent. refl)

-- ---- the last entry of a frame

still : (r d d' : Bool) → d ≡ true → (r && (d' && not d)) ≡ false
still true true true h = refl
still true true false h = refl
still false d d' h = refl
still true false d' h = absurd (false≢true h)

never-ends : (r d d' : Bool) → d' ≡ false → (r && (d' && not d)) ≡ false
never-ends true d false h = refl
never-ends false d d' h = refl
never-ends true d true h = absurd (false≢true (sym h))

ends-now : (r d d' b : Bool) → d ≡ false → d' ≡ b → (r && (d' && not d)) ≡ (r && b)
ends-now r d d' b x y = rw (x, y) (ap (λ c. r && c) (and-true b))

-- of an open row the entry is the last where it closes it
last-open : (script : Script) (past : List Entry) (e : Entry) (n : ℕ) → IsLegal script (e ∷ past) → is_sent n past ≡ true → is_open_row (row_of script past n) ≡ true → ends_frame script past n e ≡ closes e (row_of script past n)
last-open script past e n legal sent here =
    let was : is_done n past ≡ false = done-closed script past n legal.1 sent ∙ rw here refl in
    let now : is_done n (e ∷ past) ≡ not (is_open_row (row_after e (row_of script past n))) = done-closed script (e ∷ past) n legal (or_right (sends n e) (is_sent n past) sent) ∙ ap (λ r. not (is_open_row r)) (row-step script past e n legal sent) in
    ends-now (is_repeating_frame script past n) (is_done n past) (is_done n (e ∷ past)) _ was now

last-told : (script : Script) (past : List Entry) (e : Entry) (n : ℕ) → IsLegal script (e ∷ past) → sends n e ≡ false → ends_frame script past n e ≡ closes_one e (row_at n (open_rows script past))
last-told script past e n legal other =
    let r = is_repeating_frame script past n in
    let at = row-found script past n in
    elim (cases_Bool (is_sent n past)) [
      | inl sent ↦ elim (cases_Bool (is_open_row (row_of script past n))) [
        | inl here ↦ (
            let row : row_at n (open_rows script past) ≡ Some (row_of script past n) = at ∙ rw (sent, here) refl in
            last-open script past e n legal sent here ∙ ap (λ (o : Option Row). closes_one e o) (sym row)
            )
        | inr gone ↦ (
            let row : row_at n (open_rows script past) ≡ None = at ∙ rw (sent, gone) refl in
            let was : is_done n past ≡ true = done-closed script past n legal.1 sent ∙ rw gone refl in
            still r (is_done n past) (is_done n (e ∷ past)) was ∙ ap (λ (o : Option Row). closes_one e o) (sym row)
            )
      ]
      | inr none ↦ (
          let row : row_at n (open_rows script past) ≡ None = at ∙ rw none refl in
          let now : is_done n (e ∷ past) ≡ false = rw (other, none) refl in
          never-ends r (is_done n past) (is_done n (e ∷ past)) now ∙ ap (λ (o : Option Row). closes_one e o) (sym row)
          )
    ]

-- the signal of a device fence is of the row that waits for it
last-signal : (script : Script) (past : List Entry) (d : DeviceFenceNo) (x : List ℕ) (n : FrameNo) (s : StreamIx) (b : BufferId) (f : DeviceFenceNo) → IsLegal script (Late d x ∷ past) → find (is_early_with d.0) past ≡ Some (Early n s b f) → is_late d.0 past ≡ false → ends_frame script past n.0 (Late d x) ≡ closes_one (Late d x) (find (has_pending d.0) (open_rows script past))
last-signal script past d x n s b f legal found early =
    let at = the_row script past d.0 n s b f legal.1 found early in
    let here = all-found is_open_row (has_pending d.0) (open_rows script past) (row_of script past n.0) (filtered-all is_open_row (map (row_of script past) (in_order past))) at in
    last-open script past (Late d x) n.0 legal (given script past d.0 n s b f legal.1 found).sent here ∙ ap (λ (o : Option Row). closes_one (Late d x) o) (sym at)

pub last_reads : (script : Script) (past : List Entry) (e : Entry) → LastReads script past e
last_reads script past (Partial n k part) legal = last-told script past (Partial n k part) n.0 legal refl
last_reads script past (Filled n s b f digest) legal = last-told script past (Filled n s b f digest) n.0 legal refl
last_reads script past (Failed n s b f) legal = last-told script past (Failed n s b f) n.0 legal refl
last_reads script past (ErrorRequest n) legal = last-told script past (ErrorRequest n) n.0 legal refl
last_reads script past (ErrorResult n) legal = last-told script past (ErrorResult n) n.0 legal refl
last_reads script past (Late d x) legal =
    let is = late-is script past d x legal.0 in
    rw (is.4) (last-signal script past d x is.0 is.1 is.2 is.3 legal is.4 is.5)
last_reads script past _ legal = refl
