-- The rows follow the entries.
use Rattle.std.proofs.Common.{◌≡◌, ℕ, ◌==◌, Bool, true, false, ◌&&◌, List, [], ◌∷◌, refl, sym, ap, ◌∙◌, inl, inr, append-nil, filter, map}
use Rattle.std.specs.List.{list_all}
use Rattle.std.proofs.lemmas.Bool.{and_parts, both_ways, cases_Bool, eq-eqb, or_right}
use Rattle.cam_types.specs.Four.{four_list}
use Rattle.cam_types.specs.declared.four.Four.{Four}
use Rattle.cam_types.specs.declared.number.FrameNo.{FrameNo}
use Rattle.cam_types.specs.declared.number.RequestId.{RequestId}
use Rattle.cam_types.specs.declared.script.Script.{Script}
use Rattle.trace_model.specs.declared.entry.Entry.{Entry}
use Rattle.trace_model.specs.declared.entry.Entry.TheVariants.{Send}
use Rattle.trace_model.specs.declared.entry.Sent.{Sent}
use Rattle.trace_model.specs.Calls.{is_repeating, item_at}
use Rattle.trace_model.specs.Entry.{is_partial, is_stop, sends}
use Rattle.trace_model.specs.Frames.{is_sent, settings_in, targets_of}
use Rattle.trace_model.specs.Legal.{IsLegal}
use Rattle.trace_model.specs.Numbers.{next_number}
use Rattle.trace_laws.proofs.Done.{closed-stays}
use Rattle.trace_laws.proofs.Early.{not-brought, not-given}
use Rattle.trace_laws.proofs.BufferSends.{not-the-next, send-number}
use Rattle.trace_laws.proofs.Frames.{sent-once}
use Rattle.trace_laws.proofs.Settled.{given-noted, settled-noted}
use Rattle.trace_laws.proofs.Times.{parts-noted, time-noted}
use Rattle.state_facts.specs.Row.{RowsFollow, Target, fresh_target, in_order, is_open_row, row_after, target_after, open_rows, row_of, sent_row, target_at}
use Rattle.state_facts.proofs.Accepted.{repeating-kept, settings-kept}
use Rattle.state_facts.proofs.OpenRows.{row-open}
use Rattle.state_facts.proofs.Order.{order-sent}
use Rattle.state_facts.proofs.Unsent.{IsNew, unsent}
use Rattle.basic_lemmas.proofs.Counts.{count-over}
use Rattle.basic_lemmas.proofs.Lists.{filter-more}

and_sent : (a b : Bool) → b ≡ true → (a && b) ≡ a
and_sent true b h = h
and_sent false b h = refl

same_target : (t : Sent) (a b : Bool) (g h : List ℕ) (c d : Bool) → g ≡ h → c ≡ d → ◌≡◌ {A = Target} (record { sent = t; announced = a; returned = b; given = g; settled = c }) (record { sent = t; announced = a; returned = b; given = h; settled = d })
same_target t a b g h c d x y = rw (x, y) refl

targets_step : (script : Script) (past : List Entry) (e : Entry) (n : ℕ) (ts : List Sent) → IsLegal script (e ∷ past) → map (target_at n (e ∷ past)) ts ≡ map (target_after n e) (map (target_at n past) ts)
targets_step script past e n [] legal = refl
targets_step script past e n (t ∷ ts) legal =
    let one : target_at n (e ∷ past) t ≡ target_after n e (target_at n past t) = same_target t _ _ _ _ _ _ (given-noted e past n t.stream.0) (settled-noted script past e n t.stream.0 legal) in
    ap (λ (x : Target). x ∷ map (target_at n (e ∷ past)) ts) one ∙ ap (λ (xs : List Target). target_after n e (target_at n past t) ∷ xs) (targets_step script past e n ts legal)

-- what an entry does to the row of a frame that was sent before
pub row-step : (script : Script) (past : List Entry) (e : Entry) (n : ℕ) → IsLegal script (e ∷ past) → is_sent n past ≡ true → row_of script (e ∷ past) n ≡ row_after e (row_of script past n)
row-step script past e n legal sent =
    let other = sent-once script past e n legal.1 legal.0 sent in
    rw (settings-kept script past e n legal sent other, repeating-kept script past e n legal sent other, other, time-noted e past n, parts-noted script past e n legal.0, and_sent (is_stop e) _ sent, targets_step script past e n (targets_of n past) legal) refl

-- closed rows stay closed
row-stays : (script : Script) (past : List Entry) (e : Entry) (n : ℕ) → IsLegal script (e ∷ past) → is_sent n past ≡ true → is_open_row (row_of script past n) ≡ false → is_open_row (row_of script (e ∷ past) n) ≡ false
row-stays script past e n legal sent closed =
    row-open script (e ∷ past) n legal (or_right (sends n e) (is_sent n past) sent) ∙ closed-stays script past e n legal sent (sym (row-open script past n legal.1 sent) ∙ closed)

-- ---- the new row

new_targets : (n : ℕ) (past : List Entry) (ts : List Sent) → IsNew past n → map (target_at n past) ts ≡ map fresh_target ts
new_targets n past [] new = refl
new_targets n past (t ∷ ts) new = rw (new.buffers t.stream.0, new.returned t.stream.0, not-given n t.stream.0 past (new.returned t.stream.0), not-brought n t.stream.0 past (new.returned t.stream.0), new_targets n past ts new) refl

-- ---- all rows

kept-step : {X : Type 0} (k : X → Bool) (f g : ℕ → X) (h : X → X) (ok : ℕ → Bool) (xs : List ℕ) → ((n : ℕ) → ok n ≡ true → f n ≡ h (g n)) → ((n : ℕ) → ok n ≡ true → k (g n) ≡ false → k (f n) ≡ false) → list_all ok xs ≡ true → filter k (map f xs) ≡ filter k (map h (filter k (map g xs)))
kept-step k f g h ok [] step stays all = refl
kept-step k f g h ok (x ∷ xs) step stays all =
    let parts = and_parts (ok x) (list_all ok xs) all in
    let ih = kept-step k f g h ok xs step stays parts.1 in
    elim (cases_Bool (k (g x))) [
      | inl here ↦ rw (here, step x parts.0) (elim (cases_Bool (k (h (g x)))) [ inl kept ↦ rw (kept, ih) refl | inr gone ↦ rw gone ih ])
      | inr closed ↦ rw (closed, stays x parts.0 closed) ih
    ]

rows_noted : (script : Script) (past : List Entry) (e : Entry) → IsLegal script (e ∷ past) → filter is_open_row (map (row_of script (e ∷ past)) (in_order past)) ≡ filter is_open_row (map (row_after e) (open_rows script past))
rows_noted script past e legal =
    kept-step is_open_row (row_of script (e ∷ past)) (row_of script past) (row_after e) (λ n. is_sent n past) (in_order past)
    (λ n sent. row-step script past e n legal sent) (λ n sent closed. row-stays script past e n legal sent closed) (order-sent past)

pub not_sent : (script : Script) (past : List Entry) (n : ℕ) → IsLegal script past → n ≡ next_number past → is_sent n past ≡ false
not_sent script past n legal number =
    elim (cases_Bool (is_sent n past)) [
      | inl sent ↦ (let own : (n == n) ≡ true = eq-eqb n n refl in absurd (both_ways (n == n) (not-the-next script past n n legal number sent) own))
      | inr none ↦ none
    ]

pub new_row : (script : Script) (past : List Entry) (n : FrameNo) (r : RequestId) (i : ℕ) (same : Bool) (targets : Four Sent) → IsNew past n.0 → row_of script (Send n r i same targets ∷ past) n.0 ≡ sent_row n (settings_in (item_at script past r.0 i)) (is_repeating script past r.0) targets
new_row script past n r i same targets new =
    let own : (n.0 == n.0) ≡ true = eq-eqb n.0 n.0 refl in
    rw (own, new.shutter, count-over (is_partial n.0) (Send n r i same targets) past refl, new.parts, new.request, new.result, new.stopped, new_targets n.0 past (four_list targets) new) refl

pub rows_follow : (script : Script) (past : List Entry) (e : Entry) → RowsFollow script past e
rows_follow script past (Send n r i same targets) legal =
    let e = Send n r i same targets in
    let number = send-number script past n.0 r.0 i same targets legal.0 in
    let fresh = unsent script past n.0 legal.1 (not_sent script past n.0 legal.1 number) in
    filter-more is_open_row (row_of script (e ∷ past)) (in_order past) n.0 (sent_row n (settings_in (item_at script past r.0 i)) (is_repeating script past r.0) targets) (filter is_open_row (map (row_after e) (open_rows script past))) (new_row script past n r i same targets fresh) refl (rows_noted script past e legal)
rows_follow script past e legal = rows_noted script past e legal ∙ sym (append-nil (filter is_open_row (map (row_after e) (open_rows script past))))
