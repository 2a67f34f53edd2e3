-- Where the buffer of an open frame's target is: at the device until it came back, and with the client after an early
-- return.
use Rattle.std.proofs.Common.{◌≡◌, ℕ, Bool, true, false, List, Option, Some, None, refl, sym, ap, ◌∙◌, slice_get, if◌then◌else◌}
use Rattle.std.specs.List.{list_any}
use Rattle.std.specs.Option.{option_and_then}
use Rattle.std.proofs.lemmas.Bool.{false≢true}
use Rattle.cam_types.specs.declared.row.RowView.{RowView}
use Rattle.cam_types.specs.declared.row.TargetView.{TargetView}
use Rattle.cam_types.specs.declared.script.Script.{Script}
use Rattle.trace_model.specs.declared.entry.Entry.{Entry}
use Rattle.trace_model.specs.declared.entry.Sent.{Sent}
use Rattle.trace_model.specs.Configuration.{made}
use Rattle.trace_model.specs.Frames.{target_of}
use Rattle.trace_model.specs.Legal.{IsLegal}
use Rattle.trace_model.specs.Open.{is_open, is_returned, is_settled}
use Rattle.trace_model.specs.Place.{Device, is_at, place}
use Rattle.trace_model.proofs.LawLemmas.{at-device}
use Rattle.state_facts.specs.Homes.{homes, place_in}
use Rattle.state_facts.proofs.BufferReadings.{place_is}
use Rattle.trace_laws.proofs.Out.{not-returned-out}
use Rattle.run_model.specs.declared.step.Move.{Move}
use Rattle.run_model.specs.History.{trace_of}
use Rattle.run_model.specs.Jobs.{is_fill_out, is_filled_in}
use Rattle.run_model.specs.Rows.{is_early_return, row_of, rows, target_state}
use Rattle.run_model.specs.Run.{IsRun}
use Rattle.run_model.proofs.Legal.{runs_legally}
use Rattle.device_rows.specs.Rows.{target_at, target_in}
use Rattle.run_rows.proofs.Fours.{no-view, view-found, view_at}
use Rattle.run_rows.proofs.Frames.{row-found}
use Rattle.run_rows.proofs.States.{state-returned, state_by, was_bad, was_early, was_ok}
use Rattle.service_parts.specs.Facts.{IsPlaced, is_early}
use Rattle.service_parts.proofs.Awaited.{early_awaited}
use Rattle.service_parts.proofs.Own.{open_own, own_made}

-- ---- a target of the rows is a sent one of an open frame

pub record IsSentAs (h : List Move) (n s : ℕ) (target : TargetView) : Type 0 where
  pub open_ : is_open n (trace_of h) ≡ true
  pub sent : Sent
  pub found : target_of n s (trace_of h) ≡ Some sent
  pub view_is : target ≡ view_at h n s sent

of-row : (script : Script) (h : List Move) (n s : ℕ) (target : TargetView) → is_open n (trace_of h) ≡ true → target_at s (row_of script h n) ≡ Some target → IsSentAs h n s target
of-row script h n s target open_ at = by (target_of n s (trace_of h)) refl
  where
    by : (o : Option Sent) → target_of n s (trace_of h) ≡ o → IsSentAs h n s target
    by None found = let none = no-view script h n s found in absurd (cc)
    by (Some t) found = let some = view-found script h n s t found in record { open_ = open_; sent = t; found = found; view_is = cc }

sent-as : (script : Script) (h : List Move) (n s : ℕ) (target : TargetView) → target_in n s (rows script h) ≡ Some target → IsSentAs h n s target
sent-as script h n s target at = by (is_open n (trace_of h)) refl (ap (λ (o : Option RowView). option_and_then (target_at s) o) (sym (row-found script h n)) ∙ at)
  where
    by : (b : Bool) → is_open n (trace_of h) ≡ b → option_and_then (target_at s) (if b then Some (row_of script h n) else None) ≡ Some target → IsSentAs h n s target
    by true open_ at = of-row script h n s target open_ at
    by false closed at = absurd (cc)

-- ---- what its state says

early-by : (ok bad given settled out filled : Bool) → is_early (state_by ok bad given settled out filled) ≡ true → (given ≡ true) × (settled ≡ false)
early-by true bad given settled out filled h = absurd (false≢true h)
early-by false true given settled out filled h = absurd (false≢true h)
early-by false false true true out filled h = absurd (false≢true h)
early-by false false true false out filled h = (refl, refl)
early-by false false false settled true filled h = absurd (false≢true h)
early-by false false false settled false true h = absurd (false≢true h)
early-by false false false settled false false h = absurd (false≢true h)

state-early : (h : List Move) (n s : ℕ) → is_early (target_state h n s) ≡ true → (list_any (is_early_return n s) (trace_of h) ≡ true) × (is_settled n s (trace_of h) ≡ false)
state-early h n s early = early-by (was_ok h n s) (was_bad h n s) (was_early h n s) (is_settled n s (trace_of h)) (is_fill_out h n s) (is_filled_in h n s) early

-- ---- where it is

at-the-device : (script : Script) (past : List Entry) (n s : ℕ) (t : Sent) → IsLegal script past → target_of n s past ≡ Some t → is_returned n s past ≡ false → is_at (place_in (homes past) t.buffer.0) Device ≡ true
at-the-device script past n s t legal at out =
    let b = t.buffer.0 in
    let device : place b past ≡ Device = at-device n s b past (not-returned-out script past n s t legal at out) in
    ap (λ p. is_at p Device) (sym (place_is script past b legal) ∙ device)

view-placed : (script : Script) (h : List Move) (n s : ℕ) (t : Sent) → IsRun script h → is_open n (trace_of h) ≡ true → target_of n s (trace_of h) ≡ Some t → IsPlaced (homes (trace_of h)) s (view_at h n s t)
view-placed script h n s t run open_ at =
    let past = trace_of h in
    let legal = runs_legally script h run in
    record {
      own = own_made (slice_get (made past) s) t.buffer.0 (open_own script past n s t legal open_ at);
      device = λ out. at-the-device script past n s t legal at (sym (state-returned h n s) ∙ out);
      early = λ early. let is = state-early h n s early in early_awaited script past n s t legal at is.0 is.1;
    }

pub targets_placed : (script : Script) (h : List Move) → IsRun script h → (n s : ℕ) → (target : TargetView) → target_in n s (rows script h) ≡ Some target → IsPlaced (homes (trace_of h)) s target
targets_placed script h run n s target at =
    let is = sent-as script h n s target at in
    rw (is.view_is) (view-placed script h n s is.sent run is.open_ is.found)
