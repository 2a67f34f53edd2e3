-- Of each accepted request, whether its items repeat: read from the list, which grows by one with each acceptance.
use Rattle.std.proofs.Common.{◌≡◌, ℕ, zero, suc, ◌==◌, ◌+◌, Bool, true, false, List, [], ◌∷◌, ◌++◌, Some, refl, sym, ap, ◌∙◌, arith, inl, inr, map, nat_lt, slice_index_or}
use Rattle.std.specs.List.{list_all, range_with_len}
use Rattle.std.proofs.lemmas.Bool.{cases_lt, eq-eqb, lt-ltb, ltb-true, ne_eqb}
use Rattle.std.proofs.lemmas.List.{get_or_past, map-append}
use Rattle.std.proofs.lemmas.List.FromFn.{get_or-map-range_with_len, length-map-range_with_len}
use Rattle.cam_types.specs.declared.number.RequestId.{RequestId}
use Rattle.cam_types.specs.declared.reply.Reply.TheVariants.{Submitted}
use Rattle.cam_types.specs.declared.script.Script.{Script}
use Rattle.cam_types.specs.declared.script.Word.{Word}
use Rattle.trace_model.specs.declared.entry.Entry.{Entry}
use Rattle.trace_model.specs.declared.entry.Entry.TheVariants.{Call}
use Rattle.trace_model.specs.Calls.{command_at, is_repeat, is_repeating, is_submission, request_count}
use Rattle.trace_model.specs.Client.{call_due}
use Rattle.trace_model.specs.Legal.{IsLegal}
use Rattle.basic_lemmas.proofs.Counts.{count-one}
use Rattle.basic_lemmas.proofs.Lists.{map-where}
use Rattle.basic_lemmas.proofs.Ranges.{range-more}
use Rattle.trace_laws.proofs.Submitted.{not-accepted, request-number}
use Rattle.service_parts.specs.After.{kinds_with}
use Rattle.service_parts.specs.Parts.{kinds}

-- ---- the reading

pub kind-read : (script : Script) (past : List Entry) (r : ℕ) → IsLegal script past → is_repeating script past r ≡ slice_index_or (kinds script past) r false
kind-read script past r legal = elim (cases_lt r (request_count past)) [
  | inl below ↦ sym (get_or-map-range_with_len (λ q. is_repeating script past q) 0 (request_count past) r r false below (omega arith))
  | inr above ↦ ap is_repeat (not-accepted script past r legal above) ∙ sym (get_or_past (kinds script past) r false (rw (length-map-range_with_len (λ q. is_repeating script past q) 0 (request_count past)) above))
]

-- ---- the step

-- the numbers of a range lie below its end
below-end : (a n : ℕ) → list_all (λ r. nat_lt r (a + n)) (range_with_len a n) ≡ true
below-end a zero = refl
below-end a (suc n) =
    let first : nat_lt a (a + suc n) ≡ true = lt-ltb a (a + suc n) (omega arith) in
    let end : (a + 1) + n ≡ a + suc n = omega arith in
    let rest : list_all (λ r. nat_lt r (a + suc n)) (range_with_len (a + 1) n) ≡ true = rw end at (below-end (a + 1) n) in
    rw first rest

submitted-kinds : (script : Script) (past : List Entry) (i : ℕ) (word : Word) (q : RequestId) → call_due script past ≡ Some (Call i word (Submitted q)) → kinds script (Call i word (Submitted q) ∷ past) ≡ kinds script past ++ is_repeat (command_at script i) ∷ []
submitted-kinds script past i word q may =
    let now = Call i word (Submitted q) ∷ past in
    let count = request_count past in
    let number = request-number script past i word q may in
    let one = count-one is_submission (Call i word (Submitted q)) past refl in
    let more : request_count now ≡ count + 1 = omega (arith, one) in
    let new : ℕ → Bool = λ r. is_repeating script now r in
    let old : ℕ → Bool = λ r. is_repeating script past r in
    let same = map-where new old (λ r. nat_lt r (0 + count)) (range_with_len 0 count) (λ r less. other-kind script past i word q r (ne_eqb q.0 r (λ at. absurd (let below = ltb-true r (0 + count) less in omega (arith, number, at, below))))) (below-end 0 count) in
    ap (λ (n : ℕ). map new (range_with_len 0 n)) more
    ∙ (ap (λ (rs : List ℕ). map new rs) (range-more 0 count 1)
    ∙ (map-append new (range_with_len 0 count) (range_with_len (0 + count) 1)
    ∙ (ap (λ (bs : List Bool). bs ++ map new (range_with_len (0 + count) 1)) same
    ∙ ap (λ (b : Bool). map old (range_with_len 0 count) ++ b ∷ []) (own-kind script past i word q (0 + count) (eq-eqb q.0 (0 + count) (omega (arith, number)))))))
  where
    other-kind : (script : Script) (past : List Entry) (i : ℕ) (word : Word) (q : RequestId) (r : ℕ) → (q.0 == r) ≡ false → is_repeating script (Call i word (Submitted q) ∷ past) r ≡ is_repeating script past r
    other-kind script past i word q r other = rw other refl

    own-kind : (script : Script) (past : List Entry) (i : ℕ) (word : Word) (q : RequestId) (r : ℕ) → (q.0 == r) ≡ true → is_repeating script (Call i word (Submitted q) ∷ past) r ≡ is_repeat (command_at script i)
    own-kind script past i word q r own = rw own refl

pub kinds-noted : (script : Script) (past : List Entry) (e : Entry) → IsLegal script (e ∷ past) → kinds script (e ∷ past) ≡ kinds_with script e (kinds script past)
kinds-noted script past (Call i word (Submitted q)) legal = submitted-kinds script past i word q legal.0
kinds-noted script past (Call i word _) legal = refl
kinds-noted script past _ legal = refl
