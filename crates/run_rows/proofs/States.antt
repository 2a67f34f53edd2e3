-- What the state of a target says: whether the buffer came back, whether a stage took it, and whether it is filled.
use Rattle.std.proofs.Common.{◌≡◌, ℕ, ◌==◌, Bool, true, false, ◌&&◌, ◌||◌, not, List, [], ◌∷◌, refl, sym, ap, ◌∙◌, if◌then◌else◌}
use Rattle.std.specs.List.{list_any}
use Rattle.std.proofs.lemmas.Bool.{false≢true, or_left}
use Rattle.cam_types.specs.Rows as view
use Rattle.cam_types.specs.declared.row.SensorPlace.TheVariants.{NotYet, Out as SensorOut, Home, WithFill}
use Rattle.cam_types.specs.declared.row.TargetState.{TargetState}
use Rattle.cam_types.specs.declared.row.TargetState.TheVariants.{Waiting, Out, Filled as IsFilled, ReturnedEarly, EarlyFilled, ReturnedOk, ReturnedFailed}
use Rattle.cam_types.specs.declared.script.Script.{Script}
use Rattle.trace_model.specs.declared.entry.Entry.{Entry}
use Rattle.trace_model.specs.declared.entry.Entry.TheVariants.{Filled, Failed, Early}
use Rattle.trace_model.specs.Entry.{brings, returns_target}
use Rattle.trace_model.specs.Frames.{has_shutter}
use Rattle.trace_model.specs.Fence.{is_late}
use Rattle.trace_model.specs.Open.{early_fences, is_returned, is_settled}
use Rattle.run_model.specs.declared.step.Move.{Move}
use Rattle.run_model.specs.History.{trace_of}
use Rattle.run_model.specs.Jobs.{is_any_fill_out, is_fill_out, is_filled_in, is_readout_home, is_sensor_done_in, is_sensor_out, is_taken_in}
use Rattle.run_model.specs.Rows.{is_early_return, is_failed_return, is_ok_return, sensor_place, target_state}
use Rattle.run_model.specs.Run.{IsRun}
use Rattle.trace_laws.proofs.Once.{settled-returned}
use Rattle.device_rows.specs.Ready as ready
use Rattle.device_rows.specs.Ready.{is_same_state}
use Rattle.run_model.proofs.Unsent.{filled-taken}
use Rattle.basic_lemmas.proofs.Lists.{any-or, any-agree}
use Rattle.basic_lemmas.proofs.Tests.{or-false, or-crossed-three}

-- ---- how a buffer came back

back-step : (n s : ℕ) (e : Entry) (a b c : Bool) → ((is_ok_return n s e || a) || ((is_failed_return n s e || b) || (is_early_return n s e || c))) ≡ ((is_ok_return n s e || (is_failed_return n s e || is_early_return n s e)) || (a || (b || c)))
back-step n s e a b c = or-crossed-three (is_ok_return n s e) a (is_failed_return n s e) b (is_early_return n s e) c

return-kinds : (n s : ℕ) (e : Entry) → (is_ok_return n s e || (is_failed_return n s e || is_early_return n s e)) ≡ returns_target n s e
return-kinds n s (Filled m t b f d) = or-false ((m.0 == n) && (t.0 == s))
return-kinds n s (Failed m t b f) = or-false ((m.0 == n) && (t.0 == s))
return-kinds n s (Early m t b d) = refl
return-kinds n s _ = refl

-- a buffer comes back filled, failed or early
pub returned-kinds : (n s : ℕ) (past : List Entry) → (list_any (is_ok_return n s) past || (list_any (is_failed_return n s) past || list_any (is_early_return n s) past)) ≡ is_returned n s past
returned-kinds n s [] = refl
returned-kinds n s (e ∷ past) =
    back-step n s e (list_any (is_ok_return n s) past) (list_any (is_failed_return n s) past) (list_any (is_early_return n s) past)
    ∙ (ap (λ b. b || (list_any (is_ok_return n s) past || (list_any (is_failed_return n s) past || list_any (is_early_return n s) past))) (return-kinds n s e)
    ∙ ap (λ b. returns_target n s e || b) (returned-kinds n s past))

brings-kinds : (n s : ℕ) (e : Entry) → (is_ok_return n s e || is_failed_return n s e) ≡ brings n s e
brings-kinds n s (Filled m t b f d) = or-false ((m.0 == n) && (t.0 == s))
brings-kinds n s (Failed m t b f) = refl
brings-kinds n s _ = refl

pub brought-kinds : (n s : ℕ) (past : List Entry) → (list_any (is_ok_return n s) past || list_any (is_failed_return n s) past) ≡ list_any (brings n s) past
brought-kinds n s past = sym (any-or (is_ok_return n s) (is_failed_return n s) past) ∙ any-agree (λ e. is_ok_return n s e || is_failed_return n s e) (brings n s) past (brings-kinds n s)

-- ---- the state by these tests

abbrev pub state_by : Bool → Bool → Bool → Bool → Bool → Bool → TargetState
state_by ok bad given settled out filled =
    if ok then ReturnedOk
    else (if bad then ReturnedFailed
    else (if given then (if settled then ReturnedOk else (if out then ReturnedEarly else EarlyFilled))
    else (if out then Out
    else (if filled then IsFilled
    else Waiting))))

returned-by : (ok bad given settled out filled : Bool) → view.is_returned (state_by ok bad given settled out filled) ≡ (ok || (bad || given))
returned-by true bad given settled out filled = refl
returned-by false true given settled out filled = refl
returned-by false false true true out filled = refl
returned-by false false true false true filled = refl
returned-by false false true false false filled = refl
returned-by false false false settled true filled = refl
returned-by false false false settled false true = refl
returned-by false false false settled false false = refl

settled-by : (ok bad given settled out filled : Bool) → ((ok || bad) ≡ true → settled ≡ true) → (settled ≡ true → (ok || (bad || given)) ≡ true) → view.is_settled (state_by ok bad given settled out filled) ≡ settled
settled-by true bad given settled out filled h k = sym (h refl)
settled-by false true given settled out filled h k = sym (h refl)
settled-by false false true true out filled h k = refl
settled-by false false true false true filled h k = refl
settled-by false false true false false filled h k = refl
settled-by false false false true out filled h k = absurd (false≢true (k refl))
settled-by false false false false true filled h k = refl
settled-by false false false false false true h k = refl
settled-by false false false false false false h k = refl

waiting-by : (ok bad given settled taken filled : Bool) → (filled ≡ true → taken ≡ true) → is_same_state (state_by ok bad given settled (taken && not filled) filled) Waiting ≡ (not (ok || (bad || given)) && not taken)
waiting-by true bad given settled taken filled h = refl
waiting-by false true given settled taken filled h = refl
waiting-by false false true true taken filled h = refl
waiting-by false false true false true true h = refl
waiting-by false false true false true false h = refl
waiting-by false false true false false filled h = refl
waiting-by false false false settled true true h = refl
waiting-by false false false settled true false h = refl
waiting-by false false false settled false true h = absurd (false≢true (h refl))
waiting-by false false false settled false false h = refl

out-by : (ok bad given settled out filled : Bool) → is_same_state (state_by ok bad given settled out filled) Out ≡ (not (ok || (bad || given)) && out)
out-by true bad given settled out filled = refl
out-by false true given settled out filled = refl
out-by false false true true out filled = refl
out-by false false true false true filled = refl
out-by false false true false false filled = refl
out-by false false false settled true filled = refl
out-by false false false settled false true = refl
out-by false false false settled false false = refl

filled-by : (ok bad given settled taken filled : Bool) → is_same_state (state_by ok bad given settled (taken && not filled) filled) IsFilled ≡ (not (ok || (bad || given)) && filled)
filled-by true bad given settled taken filled = refl
filled-by false true given settled taken filled = refl
filled-by false false true true taken filled = refl
filled-by false false true false true true = refl
filled-by false false true false true false = refl
filled-by false false true false false filled = refl
filled-by false false false settled true true = refl
filled-by false false false settled true false = refl
filled-by false false false settled false true = refl
filled-by false false false settled false false = refl

pub early-filled-by : (ok bad given settled taken filled : Bool) → (given ≡ true → taken ≡ true) → is_same_state (state_by ok bad given settled (taken && not filled) filled) EarlyFilled ≡ ((not (ok || bad) && given) && (not settled && filled))
early-filled-by true bad given settled taken filled h = refl
early-filled-by false true given settled taken filled h = refl
early-filled-by false false true true taken filled h = refl
early-filled-by false false true false true true h = refl
early-filled-by false false true false true false h = refl
early-filled-by false false true false false filled h = absurd (false≢true (h refl))
early-filled-by false false false settled true true h = refl
early-filled-by false false false settled true false h = refl
early-filled-by false false false settled false true h = refl
early-filled-by false false false settled false false h = refl

-- ---- of a history

abbrev pub was_ok : List Move → ℕ → ℕ → Bool
was_ok h n s = list_any (is_ok_return n s) (trace_of h)

abbrev pub was_bad : List Move → ℕ → ℕ → Bool
was_bad h n s = list_any (is_failed_return n s) (trace_of h)

abbrev pub was_early : List Move → ℕ → ℕ → Bool
was_early h n s = list_any (is_early_return n s) (trace_of h)

pub state-returned : (h : List Move) (n s : ℕ) → view.is_returned (target_state h n s) ≡ is_returned n s (trace_of h)
state-returned h n s =
    returned-by (was_ok h n s) (was_bad h n s) (was_early h n s) (is_settled n s (trace_of h)) (is_fill_out h n s) (is_filled_in h n s) ∙ returned-kinds n s (trace_of h)

pub state-settled : (h : List Move) (n s : ℕ) → view.is_settled (target_state h n s) ≡ is_settled n s (trace_of h)
state-settled h n s =
    let past = trace_of h in
    settled-by (was_ok h n s) (was_bad h n s) (was_early h n s) (is_settled n s past) (is_fill_out h n s) (is_filled_in h n s)
    (λ k. or_left (list_any (brings n s) past) (list_any (λ d. is_late d past) (early_fences n s past)) (sym (brought-kinds n s past) ∙ k))
    (λ k. returned-kinds n s past ∙ settled-returned n s past k)

not-back : (h : List Move) (n s : ℕ) (b : Bool) → (not (was_ok h n s || (was_bad h n s || was_early h n s)) && b) ≡ (not (is_returned n s (trace_of h)) && b)
not-back h n s b = ap (λ r. not r && b) (returned-kinds n s (trace_of h))

pub state-waiting : (script : Script) (h : List Move) (n s : ℕ) → IsRun script h → is_same_state (target_state h n s) Waiting ≡ (not (is_returned n s (trace_of h)) && not (is_taken_in h n s))
state-waiting script h n s run =
    waiting-by (was_ok h n s) (was_bad h n s) (was_early h n s) (is_settled n s (trace_of h)) (is_taken_in h n s) (is_filled_in h n s) (filled-taken script h n s run)
    ∙ not-back h n s (not (is_taken_in h n s))

pub state-out : (h : List Move) (n s : ℕ) → is_same_state (target_state h n s) Out ≡ (not (is_returned n s (trace_of h)) && is_fill_out h n s)
state-out h n s =
    out-by (was_ok h n s) (was_bad h n s) (was_early h n s) (is_settled n s (trace_of h)) (is_fill_out h n s) (is_filled_in h n s) ∙ not-back h n s (is_fill_out h n s)

pub state-filled : (h : List Move) (n s : ℕ) → is_same_state (target_state h n s) IsFilled ≡ (not (is_returned n s (trace_of h)) && is_filled_in h n s)
state-filled h n s =
    filled-by (was_ok h n s) (was_bad h n s) (was_early h n s) (is_settled n s (trace_of h)) (is_taken_in h n s) (is_filled_in h n s) ∙ not-back h n s (is_filled_in h n s)

-- ---- the place of the sensor

pub place-out : (h : List Move) (n : ℕ) → ready.is_sensor_out (sensor_place h n) ≡ is_sensor_out h n
place-out h n = by (is_sensor_out h n) (is_any_fill_out h n) (is_readout_home h n)
  where
    by : (out fill home : Bool) → ready.is_sensor_out (if out then SensorOut else (if fill then WithFill else (if home then Home else NotYet))) ≡ out
    by true fill home = refl
    by false true home = refl
    by false false true = refl
    by false false false = refl

pub place-home : (h : List Move) (n : ℕ) → ready.is_home (sensor_place h n) ≡ is_readout_home h n
place-home h n = by (has_shutter n (trace_of h)) (is_sensor_done_in h n) (is_any_fill_out h n)
  where
    by : (shot done fill : Bool) → ready.is_home (if shot && not done then SensorOut else (if fill then WithFill else (if done && not fill then Home else NotYet))) ≡ (done && not fill)
    by true true true = refl
    by true true false = refl
    by true false fill = refl
    by false true true = refl
    by false true false = refl
    by false false true = refl
    by false false false = refl
