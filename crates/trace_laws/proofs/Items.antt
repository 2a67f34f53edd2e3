-- Each item of an accepted once or burst is sent or dropped once: what is taken of the queue wasn't taken before, and in a
-- complete run nothing is left in the queue.
use Rattle.std.proofs.Common.{◌≡◌, ℕ, ◌==◌, true, false, ◌&&◌, not, List, [], ◌∷◌, refl, sym, ◌∙◌, inl, inr, filter, nat_lt, count_by, if◌then◌else◌}
use Rattle.std.specs.List.{list_any, list_all}
use Rattle.std.proofs.lemmas.Bool.{and_parts, both_ways, cases_Bool, eq-eqb, eqb-true, false≢true, not-true}
use Rattle.cam_types.specs.declared.reply.Reply.TheVariants.{Submitted}
use Rattle.cam_types.specs.declared.script.Script.{Script}
use Rattle.trace_model.specs.declared.entry.Entry.{Entry}
use Rattle.trace_model.specs.declared.entry.Entry.TheVariants.{Call, Send, Dropped}
use Rattle.trace_model.specs.Calls.{is_repeating, request_count}
use Rattle.trace_model.specs.Client.{is_empty}
use Rattle.trace_model.specs.Complete.{IsComplete}
use Rattle.trace_model.specs.Entry.{takes}
use Rattle.trace_model.specs.Legal.{IsLegal}
use Rattle.trace_model.specs.Queue.{is_taken, submitted}
use Rattle.cam_types.specs.declared.request.WaitingItem.{WaitingItem}
use Rattle.trace_laws.proofs.FrameLemmas.{drop-of, send-of, takes_it}
use Rattle.trace_laws.proofs.Submitted.{is_settled, not-repeating-before, settled}
use Rattle.basic_lemmas.proofs.Lists.{all-where-both}
use Rattle.basic_lemmas.proofs.Counts.{counts-once}

-- ---- what is taken of the queue wasn't taken before

same_item : (e : Entry) (r i q j : ℕ) → takes r i e ≡ true → takes q j e ≡ true → (r ≡ q) × (i ≡ j)
same_item (Send n p k same targets) r i q j a b = same_pair p.0 k r i q j a b
  where
    same_pair : (p k r i q j : ℕ) → ((p == r) && (k == i)) ≡ true → ((p == q) && (k == j)) ≡ true → (r ≡ q) × (i ≡ j)
    same_pair p k r i q j a b =
        let one = and_parts (p == r) (k == i) a in
        let two = and_parts (p == q) (k == j) b in
        (sym (eqb-true p r one.0) ∙ eqb-true p q two.0, sym (eqb-true k i one.1) ∙ eqb-true k j two.1)
same_item (Dropped n p k) r i q j a b =
    let one = and_parts (p.0 == r) (k == i) a in
    let two = and_parts (p.0 == q) (k == j) b in
    (sym (eqb-true p.0 r one.0) ∙ eqb-true p.0 q two.0, sym (eqb-true k i one.1) ∙ eqb-true k j two.1)
same_item _ r i q j a b = absurd (false≢true a)

first_taken : (e : Entry) (past : List Entry) (r i : ℕ) (xs : List WaitingItem) → list_any (takes_it e) (filter (λ w. not (is_taken past w)) xs) ≡ true → takes r i e ≡ true → list_any (takes r i) past ≡ false
first_taken e past r i [] any it = absurd (false≢true any)
first_taken e past r i (w ∷ xs) any it =
    elim (cases_Bool (is_taken past w)) [
      | inl taken ↦ (let any' = rw taken at any in first_taken e past r i xs any' it)
      | inr free ↦ (
          let any' = rw free at any in
          elim (cases_Bool (takes_it e w)) [
            | inl here ↦ (let same = same_item e w.request.0 w.index r i here it in rw (← same.0, ← same.1) free)
            | inr other ↦ (let any'' = rw other at any' in first_taken e past r i xs any'' it)
          ]
          )
    ]

repeats_not : (script : Script) (past : List Entry) (q r i j k : ℕ) → is_repeating script past q ≡ true → is_repeating script past r ≡ false → ((q == r) && (j == k)) ≡ true → false ≡ true
repeats_not script past q r i j k repeats once it =
    let at = eqb-true q r (and_parts (q == r) (j == k) it).0 in
    let repeats' = rw at at repeats in
    absurd (both_ways (is_repeating script past r) once repeats')

-- so an item of a request that doesn't repeat is taken once
pub taken-counted : (script : Script) (past : List Entry) (r i : ℕ) → IsLegal script past → is_repeating script past r ≡ false → count_by (takes r i) past ≡ (if list_any (takes r i) past then 1 else 0)
taken-counted script [] r i legal once = refl
taken-counted script (Call j word (Submitted q) ∷ past) r i legal once =
    taken-counted script past r i legal.1 (not-repeating-before script past j word q r legal.1 legal.0 once)
taken-counted script (Send n q j same targets ∷ past) r i legal once =
    counts-once (takes r i) (Send n q j same targets) past
    (λ it. elim (send-of script past n q j same targets legal.1 legal.0) [
      | inl queue ↦ first_taken (Send n q j same targets) past r i (submitted script past) queue.1 it
      | inr list ↦ absurd (false≢true (repeats_not script past q.0 r i j i list.1 once it))
    ])
    (taken-counted script past r i legal.1 once)
taken-counted script (Dropped n q j ∷ past) r i legal once =
    counts-once (takes r i) (Dropped n q j) past (λ it. first_taken (Dropped n q j) past r i (submitted script past) (drop-of script past n q j legal.0) it) (taken-counted script past r i legal.1 once)
taken-counted script (e ∷ past) r i legal once = taken-counted script past r i legal.1 once

-- ---- nothing is left

all_taken : (past : List Entry) (xs : List WaitingItem) → is_empty (filter (λ w. not (is_taken past w)) xs) ≡ true → list_all (is_taken past) xs ≡ true
all_taken past [] h = refl
all_taken past (w ∷ xs) h =
    elim (cases_Bool (is_taken past w)) [
      | inl taken ↦ (let h' = rw taken at h in rw taken (all_taken past xs h'))
      | inr free ↦ (let h' = rw free at h in absurd (false≢true h'))
    ]

taken_once : (script : Script) (past : List Entry) (w : WaitingItem) → IsLegal script past → is_settled script past w ≡ true → is_taken past w ≡ true → (count_by (takes w.request.0 w.index) past == 1) ≡ true
taken_once script past w legal settled' taken =
    let parts = and_parts (nat_lt w.request.0 (request_count past)) (not (is_repeating script past w.request.0)) settled' in
    let once = not-true (is_repeating script past w.request.0) parts.1 in
    eq-eqb (count_by (takes w.request.0 w.index) past) 1 (taken-counted script past w.request.0 w.index legal once ∙ rw taken refl)

pub items_once : (script : Script) (past : List Entry) → IsComplete script past → list_all (λ w. count_by (takes w.request.0 w.index) past == 1) (submitted script past) ≡ true
items_once script past complete =
    all-where-both (is_settled script past) (is_taken past) (λ w. count_by (takes w.request.0 w.index) past == 1) (submitted script past)
    (λ w settled' taken. taken_once script past w complete.legal settled' taken)
    (settled script past complete.legal)
    (all_taken past (submitted script past) complete.queue)
