-- Whether something stands of a frame, from its row: what comes back and what is announced is of its targets.
use Rattle.std.proofs.Common.{◌≡◌, ℕ, ◌==◌, ◌≤◌, Bool, true, false, ◌&&◌, ◌||◌, not, List, [], ◌∷◌, Some, refl, sym, arith, inl, inr, count_by, nat_lt}
use Rattle.std.specs.List.{list_any}
use Rattle.std.proofs.lemmas.Bool.{and_parts, cases_Bool, eq-eqb, eqb-true, false≢true}
use Rattle.std.proofs.lemmas.Bool.Decides.{nat_tests}
use Rattle.cam_types.specs.Four.{four_list}
use Rattle.cam_types.specs.declared.script.Script.{Script}
use Rattle.trace_model.specs.declared.entry.Entry.{Entry}
use Rattle.trace_model.specs.declared.entry.Entry.TheVariants.{Send, Filled, Failed, ErrorRequest, ErrorResult, ErrorBuffer, Early}
use Rattle.trace_model.specs.declared.entry.Sent.{Sent}
use Rattle.trace_model.specs.Entry.{is_error_buffer, is_error_of, is_error_request, is_error_result, is_partial, returns_target, returns_of_frame}
use Rattle.trace_model.specs.Errors.{is_cut_short, may_fail_buffer, may_fail_in_part}
use Rattle.trace_model.specs.Faults.{buffer_fault}
use Rattle.trace_model.specs.Frames.{has_error, has_error_request, has_target, target_of, targets_of}
use Rattle.trace_model.specs.Legal.{IsLegal}
use Rattle.trace_model.specs.Open.{has_error_buffer, has_error_result, has_something, is_returned}
use Rattle.trace_laws.proofs.Returns.{early-back, failed-back, filled-back}
use Rattle.trace_laws.proofs.BufferSends.{send-number}
use Rattle.state_facts.specs.Row.{row_of, target_at}
use Rattle.state_facts.specs.FrameReadings.{has_something_row}
use Rattle.state_facts.proofs.FrameRows.{not_sent}
use Rattle.basic_lemmas.proofs.Counts.{none-counted, some-counted}
use Rattle.basic_lemmas.proofs.Lists.{found-any, any-where, any-less, any-mapped, any-or, any-never}
use Rattle.basic_lemmas.proofs.Tests.{passed-where}
use Rattle.trace_laws.proofs.Told.{buffer-tells, return-tells, some-return-tells, tells, untold}

-- what is said of a frame's targets, one by one, is what is said of any, where each entry says it of a target
swap_any : (script : Script) (n : ℕ) (g : ℕ → Entry → Bool) (any : Entry → Bool) → ((s : ℕ) (e : Entry) → g s e ≡ true → tells n e ≡ true) → ((e : Entry) → any e ≡ true → tells n e ≡ true) → ((past : List Entry) (e : Entry) → IsLegal script (e ∷ past) → list_any (λ t. g t.stream.0 e) (targets_of n past) ≡ any e) → (past : List Entry) → IsLegal script past → list_any (λ t. list_any (g t.stream.0) past) (targets_of n past) ≡ list_any any past
swap_any script n g any one some by [] legal = refl
swap_any script n g any one some by (Send m r i same targets ∷ past) legal =
    let e = Send m r i same targets in
    elim (cases_Bool (m.0 == n)) [
      | inl here ↦ (
          let number = rw (eqb-true m.0 n here) at (send-number script past m.0 r.0 i same targets legal.0) in
          let none = untold script past n legal.1 (not_sent script past n legal.1 number) in
          let silent : list_any (tells n) (e ∷ past) ≡ false = none in
          let each = any-never (λ t. list_any (g t.stream.0) (e ∷ past)) (four_list targets) (λ t. any-less (tells n) (g t.stream.0) (e ∷ past) (one t.stream.0) silent) in
          rw (here, each) (sym (any-less (tells n) any (e ∷ past) some silent))
          )
      | inr other ↦ rw (other, any-or (λ t. g t.stream.0 e) (λ t. list_any (g t.stream.0) past) (targets_of n past), by past e legal, swap_any script n g any one some by past legal.1) refl
    ]
swap_any script n g any one some by (e ∷ past) legal =
    rw (any-or (λ t. g t.stream.0 e) (λ t. list_any (g t.stream.0) past) (targets_of n past), by past e legal, swap_any script n g any one some by past legal.1) refl

has_that : (n s : ℕ) (past : List Entry) (t : Sent) → target_of n s past ≡ Some t → list_any (λ t. s == t.stream.0) (targets_of n past) ≡ true
has_that n s past t found = any-where (λ t. t.stream.0 == s) (λ t. s == t.stream.0) (targets_of n past) (λ u h. eq-eqb s u.stream.0 (sym (eqb-true u.stream.0 s h))) (found-any (λ t. t.stream.0 == s) (targets_of n past) t found)

named_by : (m n s : ℕ) (past : List Entry) → list_any (λ t. s == t.stream.0) (targets_of m past) ≡ true → list_any (λ t. (m == n) && (s == t.stream.0)) (targets_of n past) ≡ (m == n)
named_by m n s past has =
    elim (cases_Bool (m == n)) [
      | inl here ↦ (let has' = rw (eqb-true m n here) at has in rw (here) has')
      | inr other ↦ rw other (any-never (λ t. false) (targets_of n past) (λ t. refl))
    ]

-- ---- what came back

return_by : (script : Script) (n : ℕ) (past : List Entry) (e : Entry) → IsLegal script (e ∷ past) → list_any (λ t. returns_target n t.stream.0 e) (targets_of n past) ≡ returns_of_frame n e
return_by script n past (Filled m s b f d) legal = let back = filled-back script past m s b f d legal.0 in named_by m.0 n s.0 past (has_that m.0 s.0 past back.target back.found)
return_by script n past (Failed m s b f) legal = let back = failed-back past m s b f legal.0 in named_by m.0 n s.0 past (has_that m.0 s.0 past back.target back.found)
return_by script n past (Early m s b d) legal = let back = early-back script past m s b d legal.0 in named_by m.0 n s.0 past (has_that m.0 s.0 past back.target back.found)
return_by script n past _ legal = any-never (λ t. false) (targets_of n past) (λ t. refl)

pub returned-any : (script : Script) (past : List Entry) (n : ℕ) → IsLegal script past → list_any (λ t. is_returned n t.stream.0 past) (targets_of n past) ≡ list_any (returns_of_frame n) past
returned-any script past n legal = swap_any script n (returns_target n) (returns_of_frame n) (return-tells n) (some-return-tells n) (return_by script n) past legal

-- ---- what was announced

abbrev pub announces : ℕ → Entry → Bool
announces n (ErrorBuffer m _) = m.0 == n
announces n _ = false

announce_target : (script : Script) (past : List Entry) (n s : ℕ) → may_fail_buffer script past n s ≡ true → has_target n s past ≡ true
announce_target script past n s may =
    let first = and_parts (has_target n s past && (may_fail_in_part script past n && not (has_error_request n past))) ((not (has_error_buffer n s past) && not (is_returned n s past)) && (buffer_fault script n s || is_cut_short past n)) may in
    (and_parts (has_target n s past) (may_fail_in_part script past n && not (has_error_request n past)) first.0).0

announce_by : (script : Script) (n : ℕ) (past : List Entry) (e : Entry) → IsLegal script (e ∷ past) → list_any (λ t. is_error_buffer n t.stream.0 e) (targets_of n past) ≡ announces n e
announce_by script n past (ErrorBuffer m s) legal =
    named_by m.0 n s.0 past (any-where (λ t. t.stream.0 == s.0) (λ t. s.0 == t.stream.0) (targets_of m.0 past) (λ u h. eq-eqb s.0 u.stream.0 (sym (eqb-true u.stream.0 s.0 h))) (announce_target script past m.0 s.0 (passed-where _ _ _ legal.0)))
announce_by script n past _ legal = any-never (λ t. false) (targets_of n past) (λ t. refl)

announces_tells : (n : ℕ) (e : Entry) → announces n e ≡ true → tells n e ≡ true
announces_tells n (ErrorBuffer m t) h = h
announces_tells n _ h = absurd (false≢true h)

pub announced-any : (script : Script) (past : List Entry) (n : ℕ) → IsLegal script past → list_any (λ t. has_error_buffer n t.stream.0 past) (targets_of n past) ≡ list_any (announces n) past
announced-any script past n legal = swap_any script n (is_error_buffer n) (announces n) (buffer-tells n) (announces_tells n) (announce_by script n) past legal

-- ---- all of it

error_by : (n : ℕ) (e : Entry) → is_error_of n e ≡ (is_error_request n e || (is_error_result n e || announces n e))
error_by n (ErrorRequest m) = or_false (m.0 == n)
  where
    or_false : (a : Bool) → a ≡ (a || false)
    or_false true = refl
    or_false false = refl
error_by n (ErrorResult m) = or_false (m.0 == n)
  where
    or_false : (a : Bool) → a ≡ (a || false)
    or_false true = refl
    or_false false = refl
error_by n (ErrorBuffer m s) = refl
error_by n _ = refl

errors-by : (n : ℕ) (past : List Entry) → has_error n past ≡ (has_error_request n past || (has_error_result n past || list_any (announces n) past))
errors-by n [] = refl
errors-by n (e ∷ past) = rw (error_by n e, errors-by n past) (six_tests (is_error_request n e) (is_error_result n e) (announces n e) (has_error_request n past) (has_error_result n past) (list_any (announces n) past))
  where
    six_tests : (a b c x y z : Bool) → ((a || (b || c)) || (x || (y || z))) ≡ ((a || x) || ((b || y) || (c || z)))
    six_tests true b c x y z = refl
    six_tests false true c true y z = refl
    six_tests false true c false y z = refl
    six_tests false false true true y z = refl
    six_tests false false true false true z = refl
    six_tests false false true false false z = refl
    six_tests false false false x y z = refl

any_counted : (p : Entry → Bool) (past : List Entry) → list_any p past ≡ nat_lt 0 (count_by p past)
any_counted p past =
    elim (cases_Bool (list_any p past)) [
      | inl some ↦ (let one = some-counted p past some in rw some (above (count_by p past) one))
      | inr none ↦ rw (none, none-counted p past none) refl
    ]
  where
    above : (c : ℕ) → 1 ≤ c → true ≡ nat_lt 0 c
    above c h = grind (arith, nat_tests)

pub something-reads : (script : Script) (past : List Entry) (n : ℕ) → IsLegal script past → has_something n past ≡ has_something_row (row_of script past n)
something-reads script past n legal =
    rw (any_counted (is_partial n) past, ← returned-any script past n legal, errors-by n past, ← announced-any script past n legal, any-mapped (λ t. t.returned) (target_at n past) (targets_of n past), any-mapped (λ t. t.announced) (target_at n past) (targets_of n past)) refl
