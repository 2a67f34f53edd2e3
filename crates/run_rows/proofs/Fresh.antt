-- The row of a frame as it is sent.
use Rattle.std.proofs.Common.{◌≡◌, ℕ, Bool, true, false, List, [], ◌∷◌, ◌++◌, Option, Some, None, refl, sym, ap, ◌∙◌, filter, map, reverse, option_to_list}
use Rattle.std.proofs.lemmas.Bool.{false≢true}
use Rattle.std.proofs.lemmas.List.{map-id, reverse-append}
use Rattle.std.proofs.lemmas.List.Elements.{filter-append}
use Rattle.run_rows.proofs.General.{kept-append}
use Rattle.cam_types.specs.Four.{four_list, four_of}
use Rattle.cam_types.specs.Rows as view
use Rattle.cam_types.specs.declared.four.Four.{Four}
use Rattle.cam_types.specs.declared.item.Settings.{Settings}
use Rattle.cam_types.specs.declared.number.FrameNo.{FrameNo}
use Rattle.cam_types.specs.declared.number.RequestId.{RequestId}
use Rattle.cam_types.specs.declared.request.Queued.{Queued}
use Rattle.cam_types.specs.declared.row.RowView.{RowView}
use Rattle.cam_types.specs.declared.row.SensorPlace.{SensorPlace}
use Rattle.cam_types.specs.declared.row.SensorPlace.TheVariants.{NotYet}
use Rattle.cam_types.specs.declared.row.TargetState.TheVariants.{Waiting}
use Rattle.cam_types.specs.declared.row.TargetView.{TargetView}
use Rattle.cam_types.specs.declared.script.Script.{Script}
use Rattle.trace_model.specs.declared.entry.Entry.{Entry}
use Rattle.trace_model.specs.declared.entry.Entry.TheVariants.{Send as SendEntry}
use Rattle.trace_model.specs.declared.entry.Sent.{Sent}
use Rattle.trace_model.specs.Calls.{item_at}
use Rattle.trace_model.specs.Entry.{is_error_buffer, is_error_request, is_error_result, is_partial, returns_target}
use Rattle.trace_model.specs.Frames.{frames, is_sent, send_of, settings_in, settings_of, targets_of}
use Rattle.trace_model.specs.Open.{is_open}
use Rattle.trace_model.specs.Printable.{is_filled}
use Rattle.trace_model.specs.Queue.{next}
use Rattle.trace_model.specs.Send.{fits_next}
use Rattle.trace_model.proofs.LawLemmas.{goes}
use Rattle.run_model.specs.declared.step.Move.{Move}
use Rattle.run_model.specs.declared.step.StepName.{StepName}
use Rattle.run_model.specs.History.{trace_of}
use Rattle.run_model.specs.Jobs.{is_any_fill_out, is_fill_out}
use Rattle.run_model.specs.Rows.{request_of, row_of, rows, sensor_place, target_state, target_view}
use Rattle.run_model.specs.Run.{IsRun}
use Rattle.basic_lemmas.proofs.Counts.{none-counted}
use Rattle.basic_lemmas.proofs.Lists.{any-never}
use Rattle.run_model.proofs.Entries.{open-sent}
use Rattle.run_model.proofs.Legal.{runs_legally}
use Rattle.trace_laws.proofs.Frames.{unsent-next}
use Rattle.trace_laws.proofs.Told.{buffer-tells, no-time, none-of, not-stopped, partial-tells, request-tells, result-tells, return-tells, tells, untold, unexposed}
use Rattle.run_model.proofs.Unsent.{not-done, not-filled, not-taken}
use Rattle.state_facts.specs.Turns.{settings_next}
use Rattle.state_facts.proofs.Items.{IsNext, is-next}
use Rattle.run_rows.specs.Changes.{fresh_row, fresh_target, fresh_targets}
use Rattle.run_rows.proofs.Fills.{is-here}
use Rattle.run_rows.proofs.Noted.{no-sensor, no-take, not-silent, old-rows, row-open, state-noted, untouched, views-stay}
use Rattle.basic_lemmas.proofs.Tests.{own-number}

-- ---- the settings of the item that is sent

next-says : (script : Script) (past : List Entry) (r i : ℕ) (o : Option Queued) → IsNext script past r i o → settings_in (item_at script past r i) ≡ settings_next o
next-says script past r i (Some w) h = ap settings_in h.0
next-says script past r i None h = absurd h

-- ---- its targets

four-fresh : (a b c d : Option Sent) → is_filled (record { a = a; b = b; c = c; d = d }) ≡ true → four_of (map fresh_target (option_to_list a ++ (option_to_list b ++ (option_to_list c ++ option_to_list d)))) ≡ fresh_targets (record { a = a; b = b; c = c; d = d })
four-fresh (Some a) (Some b) (Some c) (Some d) h = refl
four-fresh (Some a) (Some b) (Some c) None h = refl
four-fresh (Some a) (Some b) None None h = refl
four-fresh (Some a) None None None h = refl
four-fresh None None None None h = refl
four-fresh (Some a) (Some b) None (Some d) h = absurd (false≢true h)
four-fresh (Some a) None (Some c) d h = absurd (false≢true h)
four-fresh (Some a) None None (Some d) h = absurd (false≢true h)
four-fresh None (Some b) c d h = absurd (false≢true h)
four-fresh None None (Some c) d h = absurd (false≢true h)
four-fresh None None None (Some d) h = absurd (false≢true h)

filled-places : (script : Script) (past : List Entry) (o : Option Queued) (n r i : ℕ) (same : Bool) (targets : Four Sent) → fits_next script past o n r i same targets ≡ true → is_filled targets ≡ true
filled-places script past None n r i same targets h = absurd (false≢true h)
filled-places script past (Some w) n r i same targets h = (goes script past w n r i same targets h).filled

-- ---- the row

same-fresh : (n : FrameNo) (r r' : RequestId) (s s' : Settings) (ts ts' : Four TargetView) (t t' : Option ℕ) (k k' : ℕ) (q q' e e' : Bool) (p p' : SensorPlace) (st st' : Bool) → r ≡ r' → s ≡ s' → ts ≡ ts' → t ≡ t' → k ≡ k' → q ≡ q' → e ≡ e' → p ≡ p' → st ≡ st' → ◌≡◌ {A = RowView} (record { frame = n; request = r; settings = s; targets = ts; shutter = t; parts = k; request_error = q; result_error = e; sensor = p; stopped = st }) (record { frame = n; request = r'; settings = s'; targets = ts'; shutter = t'; parts = k'; request_error = q'; result_error = e'; sensor = p'; stopped = st' })
same-fresh n r r' s s' ts ts' t t' k k' q q' e e' p p' st st' a b c d f g i j l = rw (a, b, c, d, f, g, i, j, l) refl

fresh-state : (script : Script) (h : List Move) (step : StepName) (n : FrameNo) (r : RequestId) (i : ℕ) (same : Bool) (targets : Four Sent) (u : ℕ) → IsRun script (record { step = step; entry = Some (SendEntry n r i same targets) } ∷ h) → is_sent n.0 (trace_of h) ≡ false → target_state (record { step = step; entry = Some (SendEntry n r i same targets) } ∷ h) n.0 u ≡ Waiting
fresh-state script h step n r i same targets u run unsent =
    let past = trace_of h in
    let legal = runs_legally script h run.1 in
    let here = is-here h n.0 u (none-of script past n.0 (returns_target n.0 u) legal unsent (return-tells n.0 u)) in
    let dark = unexposed script past n.0 legal unsent in
    state-noted script h step (SendEntry n r i same targets) n.0 u run
    ∙ rw (here.ok, here.bad, here.early, not-taken script h n.0 u run.1 dark, not-filled script h n.0 u run.1 dark) refl

fresh-place : (script : Script) (h : List Move) (step : StepName) (n : FrameNo) (r : RequestId) (i : ℕ) (same : Bool) (targets : Four Sent) → IsRun script (record { step = step; entry = Some (SendEntry n r i same targets) } ∷ h) → is_sent n.0 (trace_of h) ≡ false → sensor_place (record { step = step; entry = Some (SendEntry n r i same targets) } ∷ h) n.0 ≡ NotYet
fresh-place script h step n r i same targets run unsent =
    let past = trace_of h in
    let e = SendEntry n r i same targets in
    let m : Move = record { step = step; entry = Some e } in
    let dark = unexposed script past n.0 (runs_legally script h run.1) unsent in
    let quiet = not-silent script h step e run.0 in
    let idle : is_any_fill_out (m ∷ h) n.0 ≡ false = any-never (λ t. is_fill_out (m ∷ h) n.0 t.stream.0) (targets_of n.0 (trace_of (m ∷ h))) (λ t. rw (no-take step n.0 t.stream.0 quiet, not-taken script h n.0 t.stream.0 run.1 dark) refl) in
    rw (dark, no-sensor step n.0 quiet, not-done script h n.0 run.1 dark, idle) refl

fresh-view : (script : Script) (h : List Move) (step : StepName) (n : FrameNo) (r : RequestId) (i : ℕ) (same : Bool) (targets : Four Sent) (t : Sent) → IsRun script (record { step = step; entry = Some (SendEntry n r i same targets) } ∷ h) → is_sent n.0 (trace_of h) ≡ false → target_view (record { step = step; entry = Some (SendEntry n r i same targets) } ∷ h) n.0 t ≡ fresh_target t
fresh-view script h step n r i same targets t run unsent =
    let past = trace_of h in
    rw (none-of script past n.0 (is_error_buffer n.0 t.stream.0) (runs_legally script h run.1) unsent (buffer-tells n.0 t.stream.0), fresh-state script h step n r i same targets t.stream.0 run unsent) refl

pub fresh-row : (script : Script) (h : List Move) (step : StepName) (n : FrameNo) (r : RequestId) (i : ℕ) (same : Bool) (targets : Four Sent) → IsRun script (record { step = step; entry = Some (SendEntry n r i same targets) } ∷ h) → row_of script (record { step = step; entry = Some (SendEntry n r i same targets) } ∷ h) n.0 ≡ fresh_row (settings_next (next script (trace_of h))) n r targets
fresh-row script h step n r i same targets run =
    let past = trace_of h in
    let e = SendEntry n r i same targets in
    let m : Move = record { step = step; entry = Some e } in
    let legal = runs_legally script (m ∷ h) run in
    let unsent = unsent-next script past n.0 r.0 i same targets legal.1 legal.0 in
    let own = own-number n.0 in
    let none = λ (p : Entry → Bool) (says : (x : Entry) → p x ≡ true → tells n.0 x ≡ true). none-of script past n.0 p legal.1 unsent says in
    let targets' : targets_of n.0 (trace_of (m ∷ h)) ≡ four_list targets = rw own refl in
    let settings : settings_of script (trace_of (m ∷ h)) n.0 ≡ settings_in (item_at script past r.0 i) = rw own refl in
    let request : request_of (send_of n.0 (trace_of (m ∷ h))) ≡ r = rw own refl in
    same-fresh n _ _ _ _ _ _ _ _ _ _ _ _ _ _ _ _ _ _
    request
    (settings ∙ next-says script past r.0 i (next script past) (is-next script past n.0 r.0 i same targets legal.1 legal.0))
    (ap (λ (ts : List Sent). four_of (map (target_view (m ∷ h) n.0) ts)) targets'
    ∙ (ap (λ (vs : List TargetView). four_of vs) (views-stay (target_view (m ∷ h) n.0) fresh_target (four_list targets) (λ t. fresh-view script h step n r i same targets t run unsent))
    ∙ four-fresh targets.a targets.b targets.c targets.d (filled-places script past (next script past) n.0 r.0 i same targets legal.0)))
    (no-time n.0 past (untold script past n.0 legal.1 unsent))
    (none-counted (is_partial n.0) past (none (is_partial n.0) (partial-tells n.0)))
    (none (is_error_request n.0) (request-tells n.0))
    (none (is_error_result n.0) (result-tells n.0))
    (fresh-place script h step n r i same targets run unsent)
    (not-stopped n.0 past unsent)

-- ---- and the rows

pub send-changed : (script : Script) (h : List Move) (step : StepName) (n : FrameNo) (r : RequestId) (i : ℕ) (same : Bool) (targets : Four Sent) → IsRun script (record { step = step; entry = Some (SendEntry n r i same targets) } ∷ h) → rows script (record { step = step; entry = Some (SendEntry n r i same targets) } ∷ h) ≡ filter view.is_open (rows script h ++ fresh_row (settings_next (next script (trace_of h))) n r targets ∷ [])
send-changed script h step n r i same targets run =
    let past = trace_of h in
    let e = SendEntry n r i same targets in
    let m : Move = record { step = step; entry = Some e } in
    let legal = runs_legally script (m ∷ h) run in
    let row = fresh-row script h step n r i same targets run in
    let fresh = fresh_row (settings_next (next script past)) n r targets in
    let sent : is_sent n.0 (trace_of (m ∷ h)) ≡ true = rw (own-number n.0) refl in
    let open_ : is_open n.0 (trace_of (m ∷ h)) ≡ true = row-open script (m ∷ h) n.0 legal sent ∙ ap view.is_open row in
    let open' : ℕ → Bool = λ k. is_open k (trace_of (m ∷ h)) in
    let old = old-rows script m h (λ x. x) run (λ x o. untouched script h step e x run (open-sent x past o) refl refl (λ u. refl)) ∙ ap (λ (rs : List RowView). filter view.is_open rs) (map-id (rows script h)) in
    let last : map (row_of script (m ∷ h)) (filter open' (n.0 ∷ [])) ≡ fresh ∷ [] = rw (open_, row) refl in
    ap (λ (xs : List ℕ). map (row_of script (m ∷ h)) (filter open' xs)) (reverse-append (n.0 ∷ []) (frames past))
    ∙ (kept-append (row_of script (m ∷ h)) open' (reverse (frames past)) (n.0 ∷ [])
    ∙ (both _ _ _ _ old last ∙ sym (filter-append view.is_open (rows script h) (fresh ∷ []))))
  where
    both : (a a' b b' : List RowView) → a ≡ a' → b ≡ b' → a ++ b ≡ a' ++ b'
    both a a' b b' x y = rw (x, y) refl
