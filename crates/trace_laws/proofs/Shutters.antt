-- Shutters rise: a frame with a shutter has a shutter or a request error of each earlier frame before it, and every shutter
-- is before the next time.
use Rattle.std.proofs.Common.{◌≡◌, ℕ, ◌==◌, ◌+◌, ◌<◌, ◌≤◌, Bool, true, false, ◌&&◌, ◌||◌, not, List, [], ◌∷◌, Some, refl, arith, inl, inr, max, nat_lt}
use Rattle.std.specs.List.{list_all}
use Rattle.std.proofs.lemmas.Bool.{and_from, and_parts, both_ways, cases_Bool, cases_order, eq-eqb, eqb-true, false≢true, lt-ltb, ltb-true, or_right}
use Rattle.cam_types.specs.declared.number.FrameNo.{FrameNo}
use Rattle.cam_types.specs.declared.script.Script.{Script}
use Rattle.trace_model.specs.declared.entry.Entry.{Entry}
use Rattle.trace_model.specs.declared.entry.Entry.TheVariants.{Send, Shutter, ErrorRequest}
use Rattle.trace_model.specs.Entry.{is_error_of, is_error_request, is_shutter, sends}
use Rattle.trace_model.specs.Faults.{device_fault}
use Rattle.trace_model.specs.Frames.{each_earlier, frames, has_error, has_error_request, has_shutter, is_sent, settings_of}
use Rattle.trace_model.specs.Laws.{is_before, rises}
use Rattle.trace_model.specs.Legal.{IsLegal}
use Rattle.trace_model.specs.Shutter.{may_expose, next_time, shutter_due}
use Rattle.trace_model.specs.Stopping.{is_stopping}
use Rattle.trace_laws.proofs.Shapes.{shutter-is}
use Rattle.trace_laws.proofs.Sends.{each-at, sent-before}
use Rattle.basic_lemmas.proofs.Lists.{any-behind, any-less, found-passes}

-- ---- what is exposed

-- the earlier frames had their shutter or failed
abbrev pub WereExposed : ℕ → List Entry → Type 0
WereExposed n past = each_earlier n (λ m. has_shutter m past || has_error_request m past) past ≡ true

exposed_parts : (stopping sent shutter error earlier fault : Bool) → (not stopping && (((sent && (not shutter && not error)) && earlier) && not fault)) ≡ true → (sent ≡ true) × (shutter ≡ false) × (error ≡ false) × (earlier ≡ true)
exposed_parts false true false false true false h = (refl, refl, refl, refl)
exposed_parts _ _ _ _ _ _ h = absurd (false≢true h)

-- a shutter is of a frame that was sent and has no shutter and no error yet, after all before it
pub exposed : (script : Script) (past : List Entry) (n : FrameNo) (time : ℕ) → shutter_due script past ≡ Some (Shutter n time) → (is_sent n.0 past ≡ true) × (has_shutter n.0 past ≡ false) × (has_error n.0 past ≡ false) × WereExposed n.0 past
exposed script past n time h =
    let is = shutter-is script past n time h in
    let may = found-passes (may_expose script past) (frames past) n.0 is.0 in
    exposed_parts (is_stopping past) (is_sent n.0 past) (has_shutter n.0 past) (has_error n.0 past) (each_earlier n.0 (λ m. has_shutter m past || has_error_request m past) past) (device_fault script n.0) may

pub request_is_error : (n : ℕ) (e : Entry) → is_error_request n e ≡ true → is_error_of n e ≡ true
request_is_error n (ErrorRequest m) h = h
request_is_error n _ h = absurd (false≢true h)

-- what has no error has no request error
pub no-request : (n : ℕ) (past : List Entry) → has_error n past ≡ false → has_error_request n past ≡ false
no-request n past h = any-less (is_error_of n) (is_error_request n) past (request_is_error n) h

-- ---- the order of frames

-- what has a shutter was sent
pub shutter-sent : (script : Script) (past : List Entry) (m : ℕ) → IsLegal script past → has_shutter m past ≡ true → is_sent m past ≡ true
shutter-sent script [] m legal h = absurd (false≢true h)
shutter-sent script (Send n r i same targets ∷ past) m legal h = any-behind (sends m) (Send n r i same targets) past (shutter-sent script past m legal.1 h)
shutter-sent script (Shutter n time ∷ past) m legal h =
    elim (cases_Bool (n.0 == m)) [
      | inl here ↦ (let sent = (exposed script past n time legal.0).0 in rw (eqb-true n.0 m here) at sent)
      | inr other ↦ (let h' = rw other at h in shutter-sent script past m legal.1 h')
    ]
shutter-sent script (e ∷ past) m legal h = shutter-sent script past m legal.1 h

one_more_shutter : (a b c : Bool) → (b || c) ≡ true → ((a || b) || c) ≡ true
one_more_shutter true b c h = refl
one_more_shutter false b c h = h

one_more_request : (a b c : Bool) → (b || c) ≡ true → (b || (a || c)) ≡ true
one_more_request a true c h = refl
one_more_request a false c h = or_right a c h

-- a sent frame below one that has a shutter has one too, or failed whole
pub shutter-below : (script : Script) (past : List Entry) (n m : ℕ) → IsLegal script past → has_shutter m past ≡ true → n < m → is_sent n past ≡ true → (has_shutter n past || has_error_request n past) ≡ true
shutter-below script [] n m legal h less sent = absurd (false≢true h)
shutter-below script (Send j r i same targets ∷ past) n m legal h less sent =
    let sent' = sent-before script past n m j.0 r.0 i same targets legal.1 legal.0 (shutter-sent script past m legal.1 h) less sent in
    shutter-below script past n m legal.1 h less sent'
shutter-below script (Shutter j time ∷ past) n m legal h less sent =
    elim (cases_Bool (j.0 == m)) [
      | inl here ↦ (
          let is = exposed script past j time legal.0 in
          let at = eqb-true j.0 m here in
          let less' : n < j.0 = omega (arith, less, at) in
          one_more_shutter (j.0 == n) (has_shutter n past) (has_error_request n past) (each-at j.0 n (λ k. has_shutter k past || has_error_request k past) past is.3 sent less')
          )
      | inr other ↦ (
          let h' = rw other at h in
          one_more_shutter (j.0 == n) (has_shutter n past) (has_error_request n past) (shutter-below script past n m legal.1 h' less sent)
          )
    ]
shutter-below script (ErrorRequest j ∷ past) n m legal h less sent =
    one_more_request (j.0 == n) (has_shutter n past) (has_error_request n past) (shutter-below script past n m legal.1 h less sent)
shutter-below script (e ∷ past) n m legal h less sent = shutter-below script past n m legal.1 h less sent

-- what has a shutter is below the frame that is exposed next
frames_before : (script : Script) (past : List Entry) (n : FrameNo) (time m : ℕ) → IsLegal script past → shutter_due script past ≡ Some (Shutter n time) → has_shutter m past ≡ true → m < n.0
frames_before script past n time m legal h had =
    let is = exposed script past n time h in
    elim (cases_order m n.0) [
      | inl at ↦ (let had' = rw at at had in absurd (both_ways (has_shutter n.0 past) is.1 had'))
      | inr order ↦ elim order [
        | inl less ↦ less
        | inr more ↦ (
            let passed = shutter-below script past n.0 m legal had more is.0 in
            let failed : has_error_request n.0 past ≡ true = rw is.1 at passed in
            absurd (both_ways (has_error_request n.0 past) (no-request n.0 past is.2) failed)
            )
      ]
    ]

-- ---- the order of times

abbrev pub is_earlier : ℕ → Entry → Bool
is_earlier time (Shutter m t) = nat_lt t time
is_earlier time _ = true

earlier_still : (time later : ℕ) (past : List Entry) → time ≤ later → list_all (is_earlier time) past ≡ true → list_all (is_earlier later) past ≡ true
earlier_still time later [] less h = refl
earlier_still time later (Shutter m t ∷ past) less h =
    let parts = and_parts (nat_lt t time) (list_all (is_earlier time) past) h in
    let before = ltb-true t time parts.0 in
    and_from (nat_lt t later) (list_all (is_earlier later) past) (lt-ltb t later (omega (arith, before, less))) (earlier_still time later past less parts.1)
earlier_still time later (e ∷ past) less h = earlier_still time later past less h

-- all shutters are before the next time
pub times-earlier : (script : Script) (past : List Entry) → IsLegal script past → list_all (is_earlier (next_time script past)) past ≡ true
times-earlier script [] legal = refl
times-earlier script (Shutter n time ∷ past) legal =
    let is = shutter-is script past n time legal.0 in
    let ih = times-earlier script past legal.1 in
    let x = (settings_of script past n.0).exposure in
    let less : time < time + max 33333333 x = omega arith in
    let most : next_time script past ≤ time + max 33333333 x = omega (arith, is.1) in
    and_from (nat_lt time (time + max 33333333 x)) (list_all (is_earlier (time + max 33333333 x)) past) (lt-ltb time (time + max 33333333 x) less) (earlier_still (next_time script past) (time + max 33333333 x) past most ih)
times-earlier script (e ∷ past) legal = times-earlier script past legal.1

-- ---- both

all_before : (n time : ℕ) (past : List Entry) → ((m : ℕ) → has_shutter m past ≡ true → m < n) → list_all (is_earlier time) past ≡ true → list_all (is_before n time) past ≡ true
all_before n time [] each times = refl
all_before n time (Shutter m t ∷ past) each times =
    let parts = and_parts (nat_lt t time) (list_all (is_earlier time) past) times in
    let here : has_shutter m.0 (Shutter m t ∷ past) ≡ true = rw (eq-eqb m.0 m.0 refl) refl in
    let less = lt-ltb m.0 n (each m.0 here) in
    let rest = all_before n time past (λ k h. each k (any-behind (is_shutter k) (Shutter m t) past h)) parts.1 in
    rw (less, parts.0, rest) refl
all_before n time (e ∷ past) each times = all_before n time past each times

pub shutters_rise : (script : Script) (past : List Entry) → IsLegal script past → rises past ≡ true
shutters_rise script [] legal = refl
shutters_rise script (Shutter n time ∷ past) legal =
    let is = shutter-is script past n time legal.0 in
    let times = times-earlier script past legal.1 in
    let times' : list_all (is_earlier time) past ≡ true = rw is.1 times in
    let before = all_before n.0 time past (λ m h. frames_before script past n time m legal.1 legal.0 h) times' in
    and_from (list_all (is_before n.0 time) past) (rises past) before (shutters_rise script past legal.1)
shutters_rise script (e ∷ past) legal = shutters_rise script past legal.1
