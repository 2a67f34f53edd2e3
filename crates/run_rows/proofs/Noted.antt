-- A row after a move, field by field.
use Rattle.std.proofs.Common.{◌≡◌, ℕ, ◌==◌, Bool, true, false, ◌&&◌, ◌||◌, not, List, [], ◌∷◌, Option, Some, None, refl, sym, ap, ◌∙◌, inl, inr, filter, map, reverse, slice_get, if◌then◌else◌}
use Rattle.std.specs.List.{list_all, list_any}
use Rattle.std.specs.Option.{option_map}
use Rattle.std.proofs.lemmas.Bool.{and_parts, cases_Bool, eqb-true, false≢true}
use Rattle.std.proofs.lemmas.Option.{slice_get-map}
use Rattle.cam_types.specs.Four.{four_of}
use Rattle.cam_types.specs.Rows as view
use Rattle.cam_types.specs.declared.four.Four.{Four}
use Rattle.cam_types.specs.declared.item.Settings.{Settings}
use Rattle.cam_types.specs.declared.number.RequestId.{RequestId}
use Rattle.cam_types.specs.declared.row.RowView.{RowView}
use Rattle.cam_types.specs.declared.row.SensorPlace.{SensorPlace}
use Rattle.cam_types.specs.declared.row.SensorPlace.TheVariants.{NotYet, Out as SensorOut, Home, WithFill}
use Rattle.cam_types.specs.declared.row.TargetState.{TargetState}
use Rattle.cam_types.specs.declared.row.TargetView.{TargetView}
use Rattle.cam_types.specs.declared.script.Script.{Script}
use Rattle.trace_model.specs.declared.entry.Entry.{Entry}
use Rattle.trace_model.specs.declared.entry.Entry.TheVariants.{Shutter, Filled, Failed, Early}
use Rattle.trace_model.specs.declared.entry.Sent.{Sent}
use Rattle.trace_model.specs.Entry.{is_error_buffer, is_error_request, is_error_result, is_shutter, is_stop, sends}
use Rattle.trace_model.specs.Frames.{frames, has_error_request, has_shutter, is_sent, send_of, settings_of, shutter_time, targets_of}
use Rattle.trace_model.specs.Legal.{IsLegal}
use Rattle.trace_model.specs.Open.{all_settled, early_fences, has_error_buffer, has_error_result, is_metadata_ended, is_open, is_settled}
use Rattle.trace_model.specs.Partial.{partial_count}
use Rattle.trace_model.specs.Stopping.{is_stopped}
use Rattle.run_model.specs.declared.step.Move.{Move}
use Rattle.run_model.specs.declared.step.StepName.{StepName}
use Rattle.run_model.specs.declared.step.StepName.TheVariants.{SensorDone, TakeFill, FillDone}
use Rattle.run_model.specs.History.{trace_of, with_entry, is_fill_done, is_sensor_done, is_silent, is_take_fill}
use Rattle.run_model.specs.Jobs.{is_any_fill_out, is_fill_out, is_filled_in, is_sensor_done_in, is_sensor_out}
use Rattle.run_model.specs.Ready.{may_take_fill, move_of}
use Rattle.run_model.specs.Rows.{is_early_return, is_failed_return, is_ok_return, request_of, row_of, rows, sensor_place, target_state, target_view}
use Rattle.run_model.specs.Run.{IsRun}
use Rattle.device_rows.specs.Marks.{if_of_stream, in_state, with_target}
use Rattle.run_model.proofs.Legal.{adds-none, runs_legally}
use Rattle.trace_laws.specs.Settled.{settles}
use Rattle.trace_laws.proofs.Done.{closed-stays}
use Rattle.trace_laws.proofs.Frames.{sent-once}
use Rattle.trace_laws.proofs.Settled.{settled-noted}
use Rattle.trace_laws.proofs.Told.{buffer-tells, request-tells, result-tells, tells}
use Rattle.trace_laws.specs.Times.{partials_after, note_time}
use Rattle.trace_laws.proofs.Times.{parts-noted, parts-other, time-noted, time-other}
use Rattle.state_facts.proofs.Accepted.{settings-kept}
use Rattle.basic_lemmas.proofs.Lists.{all-agree, all-mapped, any-behind, any-agree}
use Rattle.basic_lemmas.proofs.Tests.{not-by}
use Rattle.run_rows.proofs.Fours.{all-four, each_of, row-targets}
use Rattle.run_rows.proofs.Frames.{sent-in-order}
use Rattle.run_rows.proofs.Parts.{row-ended}
use Rattle.run_rows.proofs.States.{state-settled, state_by, was_bad, was_early, was_ok}

-- ---- a step that adds an entry ends no job and begins no fill

abbrev pub Adds : Script → List Move → StepName → Entry → Type 0
Adds script h step e = move_of script h step ≡ Some (record { step = step; entry = Some e })

pub not-silent : (script : Script) (h : List Move) (step : StepName) (e : Entry) → Adds script h step e → is_silent step ≡ false
not-silent script h (SensorDone n) e at = let none = (adds-none (SensorDone n) (is_sensor_out h n.0) _ at).1 in absurd (cc)
not-silent script h (TakeFill n s) e at = let none = (adds-none (TakeFill n s) (may_take_fill script h n.0 s.0) _ at).1 in absurd (cc)
not-silent script h (FillDone n s) e at = let none = (adds-none (FillDone n s) (is_fill_out h n.0 s.0) _ at).1 in absurd (cc)
not-silent script h _ e at = refl

pub no-take : (step : StepName) (n s : ℕ) → is_silent step ≡ false → is_take_fill n s step ≡ false
no-take (TakeFill m t) n s h = absurd (false≢true (sym h))
no-take _ n s h = refl

pub no-fill : (step : StepName) (n s : ℕ) → is_silent step ≡ false → is_fill_done n s step ≡ false
no-fill (FillDone m t) n s h = absurd (false≢true (sym h))
no-fill _ n s h = refl

pub no-sensor : (step : StepName) (n : ℕ) → is_silent step ≡ false → is_sensor_done n step ≡ false
no-sensor (SensorDone m) n h = absurd (false≢true (sym h))
no-sensor _ n h = refl

-- ---- the state of a target after an entry

pub state-noted : (script : Script) (h : List Move) (step : StepName) (e : Entry) (n s : ℕ) → IsRun script (record { step = step; entry = Some e } ∷ h) → target_state (record { step = step; entry = Some e } ∷ h) n s ≡ state_by (is_ok_return n s e || was_ok h n s) (is_failed_return n s e || was_bad h n s) (is_early_return n s e || was_early h n s) (settles n s e (early_fences n s (trace_of h)) || is_settled n s (trace_of h)) (is_fill_out h n s) (is_filled_in h n s)
state-noted script h step e n s run =
    let quiet = not-silent script h step e run.0 in
    rw (no-take step n s quiet, no-fill step n s quiet, settled-noted script (trace_of h) e n s (runs_legally script (record { step = step; entry = Some e } ∷ h) run)) refl

-- an entry that doesn't give the buffer back, nor its picture, leaves the state
pub state-stays : (script : Script) (h : List Move) (step : StepName) (e : Entry) (n s : ℕ) → IsRun script (record { step = step; entry = Some e } ∷ h) → is_ok_return n s e ≡ false → is_failed_return n s e ≡ false → is_early_return n s e ≡ false → settles n s e (early_fences n s (trace_of h)) ≡ false → target_state (record { step = step; entry = Some e } ∷ h) n s ≡ target_state h n s
state-stays script h step e n s run a b c d = state-noted script h step e n s run ∙ rw (a, b, c, d) refl

-- ---- the place of the sensor after an entry

pub fill-same : (script : Script) (h : List Move) (step : StepName) (e : Entry) (n s : ℕ) → Adds script h step e → is_fill_out (record { step = step; entry = Some e } ∷ h) n s ≡ is_fill_out h n s
fill-same script h step e n s at = let quiet = not-silent script h step e at in rw (no-take step n s quiet, no-fill step n s quiet) refl

pub targets-noted : (script : Script) (past : List Entry) (e : Entry) (n : ℕ) → IsLegal script (e ∷ past) → is_sent n past ≡ true → targets_of n (e ∷ past) ≡ targets_of n past
targets-noted script past e n legal sent = rw (sent-once script past e n legal.1 legal.0 sent) refl

abbrev pub place_by : Bool → Bool → Bool → SensorPlace
place_by shot done fill = if shot && not done then SensorOut else (if fill then WithFill else (if done && not fill then Home else NotYet))

pub place-noted : (script : Script) (h : List Move) (step : StepName) (e : Entry) (n : ℕ) → IsRun script (record { step = step; entry = Some e } ∷ h) → is_sent n (trace_of h) ≡ true → sensor_place (record { step = step; entry = Some e } ∷ h) n ≡ place_by (is_shutter n e || has_shutter n (trace_of h)) (is_sensor_done_in h n) (is_any_fill_out h n)
place-noted script h step e n run sent =
    let m : Move = record { step = step; entry = Some e } in
    let past = trace_of h in
    let quiet = not-silent script h step e run.0 in
    let any : is_any_fill_out (m ∷ h) n ≡ is_any_fill_out h n =
    ap (λ (ts : List Sent). list_any (λ t. is_fill_out (m ∷ h) n t.stream.0) ts) (targets-noted script past e n (runs_legally script (m ∷ h) run) sent)
    ∙ any-agree (λ t. is_fill_out (m ∷ h) n t.stream.0) (λ t. is_fill_out h n t.stream.0) (targets_of n past) (λ t. fill-same script h step e n t.stream.0 run.0)
    in
    both (λ done fill. place_by (is_shutter n e || has_shutter n past) done fill) _ _ _ _ (ap (λ b. b || is_sensor_done_in h n) (no-sensor step n quiet)) any
  where
    both : (f : Bool → Bool → SensorPlace) (a a' b b' : Bool) → a ≡ a' → b ≡ b' → f a b ≡ f a' b'
    both f a a' b b' x y = rw (x, y) refl

-- ---- a row after an entry

same-view : (n : ℕ) (r r' : RequestId) (s s' : Settings) (ts ts' : Four TargetView) (t t' : Option ℕ) (k k' : ℕ) (q e : Bool) (p p' : SensorPlace) (st st' : Bool) → r ≡ r' → s ≡ s' → ts ≡ ts' → t ≡ t' → k ≡ k' → p ≡ p' → st ≡ st' → ◌≡◌ {A = RowView} (record { frame = record { 0 = n }; request = r; settings = s; targets = ts; shutter = t; parts = k; request_error = q; result_error = e; sensor = p; stopped = st }) (record { frame = record { 0 = n }; request = r'; settings = s'; targets = ts'; shutter = t'; parts = k'; request_error = q; result_error = e; sensor = p'; stopped = st' })
same-view n r r' s s' ts ts' t t' k k' q e p p' st st' a b c d f g i = rw (a, b, c, d, f, g, i) refl

-- a row with its fields noted: its targets are these, and its sensor's place is this
abbrev pub row_noted : Script → List Move → Entry → ℕ → List TargetView → SensorPlace → RowView
row_noted script h e n vs p = record {
  frame = record { 0 = n };
  request = request_of (send_of n (trace_of h));
  settings = settings_of script (trace_of h) n;
  targets = four_of vs;
  shutter = note_time e n (shutter_time n (trace_of h));
  parts = partials_after e n (partial_count n (trace_of h));
  request_error = is_error_request n e || has_error_request n (trace_of h);
  result_error = is_error_result n e || has_error_result n (trace_of h);
  sensor = p;
  stopped = is_stop e || is_stopped n (trace_of h);
}

pub view-noted : (script : Script) (h : List Move) (step : StepName) (e : Entry) (n : ℕ) (vs : List TargetView) (p : SensorPlace) → IsRun script (record { step = step; entry = Some e } ∷ h) → is_sent n (trace_of h) ≡ true → map (target_view (record { step = step; entry = Some e } ∷ h) n) (targets_of n (trace_of h)) ≡ vs → sensor_place (record { step = step; entry = Some e } ∷ h) n ≡ p → row_of script (record { step = step; entry = Some e } ∷ h) n ≡ row_noted script h e n vs p
view-noted script h step e n vs p run sent targets place =
    let m : Move = record { step = step; entry = Some e } in
    let past = trace_of h in
    let legal = runs_legally script (m ∷ h) run in
    let other = sent-once script past e n legal.1 legal.0 sent in
    same-view n _ _ _ _ _ _ _ _ _ _ _ _ _ _ _ _
    (ap (λ (o : Option Entry). request_of o) (send-same past e n other))
    (settings-kept script past e n legal sent other)
    (ap (λ (ts : List TargetView). four_of ts) (ap (λ (ts : List Sent). map (target_view (m ∷ h) n) ts) (targets-noted script past e n legal sent) ∙ targets))
    (time-noted e past n)
    (parts-noted script past e n legal.0)
    place
    (stopped-noted (is_stop e) (is_sent n past) (is_stopped n past) sent)
  where
    stopped-noted : (a b c : Bool) → b ≡ true → ((a && b) || c) ≡ (a || c)
    stopped-noted true b c h = rw h refl
    stopped-noted false b c h = refl

    send-same : (past : List Entry) (e : Entry) (n : ℕ) → sends n e ≡ false → send_of n (e ∷ past) ≡ send_of n past
    send-same past e n other = rw other refl

-- ---- the targets, one by one

pub target-noted : (h : List Move) (step : StepName) (e : Entry) (n : ℕ) (t : Sent) (state : TargetState) → target_state (record { step = step; entry = Some e } ∷ h) n t.stream.0 ≡ state → target_view (record { step = step; entry = Some e } ∷ h) n t ≡ record { stream = t.stream; buffer = t.buffer; fence = t.fence; announced = is_error_buffer n t.stream.0 e || has_error_buffer n t.stream.0 (trace_of h); state = state }
target-noted h step e n t state at =
    ap (λ (s : TargetState). record { stream = t.stream; buffer = t.buffer; fence = t.fence; announced = is_error_buffer n t.stream.0 e || has_error_buffer n t.stream.0 (trace_of h); state = s }) at

-- what becomes of each target is what becomes of them all
pub views-changed : (f g : Sent → TargetView) (c : TargetView → TargetView) (ts : List Sent) → ((t : Sent) → f t ≡ c (g t)) → map f ts ≡ map c (map g ts)
views-changed f g c [] each = refl
views-changed f g c (t ∷ ts) each = rw (each t, views-changed f g c ts each) refl

pub views-stay : (f g : Sent → TargetView) (ts : List Sent) → ((t : Sent) → f t ≡ g t) → map f ts ≡ map g ts
views-stay f g [] each = refl
views-stay f g (t ∷ ts) each = rw (each t, views-stay f g ts each) refl

abbrev pub at_stream : ℕ → (TargetView → TargetView) → TargetView → TargetView
at_stream s c v = if v.stream.0 == s then c v else v

of-stream : (s : ℕ) (c : TargetView → TargetView) (o : Option TargetView) → option_map (at_stream s c) o ≡ if_of_stream s c o
of-stream s c None = refl
of-stream s c (Some v) = refl

-- a change of the target of a stream alone
pub four-changed : (s : ℕ) (c : TargetView → TargetView) (vs : List TargetView) → four_of (map (at_stream s c) vs) ≡ with_target s c (four_of vs)
four-changed s c vs =
    same-four _ _ _ _ _ _ _ _ (one 0) (one 1) (one 2) (one 3)
  where
    same-four : (a a' b b' c c' d d' : Option TargetView) → a ≡ a' → b ≡ b' → c ≡ c' → d ≡ d' → ◌≡◌ {A = Four TargetView} (record { a = a; b = b; c = c; d = d }) (record { a = a'; b = b'; c = c'; d = d' })
    same-four a a' b b' c c' d d' x y z w = rw (x, y, z, w) refl

    one : (i : ℕ) → slice_get (map (at_stream s c) vs) i ≡ if_of_stream s c (slice_get vs i)
    one i = slice_get-map (at_stream s c) vs i ∙ of-stream s c (slice_get vs i)

-- the target of one stream comes into a state, and the others stay
pub state-views : (h' h : List Move) (n s : ℕ) (state : TargetState) (ts : List Sent) → ((u : ℕ) → has_error_buffer n u (trace_of h') ≡ has_error_buffer n u (trace_of h)) → ((u : ℕ) → (u == s) ≡ false → target_state h' n u ≡ target_state h n u) → target_state h' n s ≡ state → map (target_view h' n) ts ≡ map (at_stream s (in_state state)) (map (target_view h n) ts)
state-views h' h n s state ts errors others own = views-changed (target_view h' n) (target_view h n) (at_stream s (in_state state)) ts one
  where
    both : (t : Sent) (a a' : Bool) (x x' : TargetState) → a ≡ a' → x ≡ x' → ◌≡◌ {A = TargetView} (record { stream = t.stream; buffer = t.buffer; fence = t.fence; announced = a; state = x }) (record { stream = t.stream; buffer = t.buffer; fence = t.fence; announced = a'; state = x' })
    both t a a' x x' y z = rw (y, z) refl

    one : (t : Sent) → target_view h' n t ≡ at_stream s (in_state state) (target_view h n t)
    one t = elim (cases_Bool (t.stream.0 == s)) [
      | inl here ↦ rw here (both t _ _ _ _ (errors t.stream.0) (ap (λ (u : ℕ). target_state h' n u) (eqb-true t.stream.0 s here) ∙ own))
      | inr other ↦ rw other (both t _ _ _ _ (errors t.stream.0) (others t.stream.0 other))
    ]

-- ---- a row that the entry says nothing of

shutter-tells : (n : ℕ) (e : Entry) → is_shutter n e ≡ true → tells n e ≡ true
shutter-tells n (Shutter m time) h = h
shutter-tells n _ h = absurd (false≢true h)

ok-tells : (n s : ℕ) (e : Entry) → is_ok_return n s e ≡ true → tells n e ≡ true
ok-tells n s (Filled m t b f d) h = (and_parts (m.0 == n) (t.0 == s) h).0
ok-tells n s _ h = absurd (false≢true h)

bad-tells : (n s : ℕ) (e : Entry) → is_failed_return n s e ≡ true → tells n e ≡ true
bad-tells n s (Failed m t b f) h = (and_parts (m.0 == n) (t.0 == s) h).0
bad-tells n s _ h = absurd (false≢true h)

early-tells : (n s : ℕ) (e : Entry) → is_early_return n s e ≡ true → tells n e ≡ true
early-tells n s (Early m t b d) h = (and_parts (m.0 == n) (t.0 == s) h).0
early-tells n s _ h = absurd (false≢true h)

pub untouched : (script : Script) (h : List Move) (step : StepName) (e : Entry) (n : ℕ) → IsRun script (record { step = step; entry = Some e } ∷ h) → is_sent n (trace_of h) ≡ true → tells n e ≡ false → is_stop e ≡ false → ((s : ℕ) → settles n s e (early_fences n s (trace_of h)) ≡ false) → row_of script (record { step = step; entry = Some e } ∷ h) n ≡ row_of script h n
untouched script h step e n run sent none going free =
    let past = trace_of h in
    let request = not-by (is_error_request n e) (tells n e) (request-tells n e) none in
    let result = not-by (is_error_result n e) (tells n e) (result-tells n e) none in
    let shutter = not-by (is_shutter n e) (tells n e) (shutter-tells n e) none in
    view-noted script h step e n (map (target_view h n) (targets_of n past)) (sensor_place h n) run sent
    (views-stay (target_view (record { step = step; entry = Some e } ∷ h) n) (target_view h n) (targets_of n past)
    (λ t.
    let s = t.stream.0 in
    target-noted h step e n t (target_state h n s) (state-stays script h step e n s run (not-by (is_ok_return n s e) (tells n e) (ok-tells n s e) none) (not-by (is_failed_return n s e) (tells n e) (bad-tells n s e) none) (not-by (is_early_return n s e) (tells n e) (early-tells n s e) none) (free s))
    ∙ rw (not-by (is_error_buffer n s e) (tells n e) (buffer-tells n s e) none) refl))
    (place-noted script h step e n run sent ∙ rw shutter refl)
    ∙ rw (time-other e n (shutter_time n past) none, parts-other e n (partial_count n past) none, request, result, going) refl

-- ---- a row after a step that adds no entry

pub silent-row : (script : Script) (h : List Move) (step : StepName) (n : ℕ) (vs : List TargetView) (p : SensorPlace) → map (target_view (record { step = step; entry = None } ∷ h) n) (targets_of n (trace_of h)) ≡ vs → sensor_place (record { step = step; entry = None } ∷ h) n ≡ p → row_of script (record { step = step; entry = None } ∷ h) n ≡ record (row_of script h n) { targets = four_of vs; sensor = p }
silent-row script h step n vs p targets place =
    let past = trace_of h in
    same-view n _ _ _ _ _ _ _ _ _ _ _ _ _ _ _ _ refl refl (ap (λ (xs : List TargetView). four_of xs) targets) refl refl place refl

-- ---- the rows after a move

pub row-open : (script : Script) (h : List Move) (n : ℕ) → IsLegal script (trace_of h) → is_sent n (trace_of h) ≡ true → is_open n (trace_of h) ≡ view.is_open (row_of script h n)
row-open script h n legal sent =
    let past = trace_of h in
    let row = row_of script h n in
    let settled : view.are_settled row.targets ≡ all_settled n past =
    rw (at row.targets.a, at row.targets.b, at row.targets.c, at row.targets.d, ← all-four (λ (t : TargetView). view.is_settled t.state) row.targets) refl
    ∙ (ap (λ (ts : List TargetView). list_all (λ t. view.is_settled t.state) ts) (row-targets script h n)
    ∙ (all-mapped (λ (t : TargetView). view.is_settled t.state) (target_view h n) (targets_of n past)
    ∙ all-agree (λ t. view.is_settled (target_state h n t.stream.0)) (λ t. is_settled n t.stream.0 past) (targets_of n past) (λ t. state-settled h n t.stream.0)))
    in
    by (is_sent n past) (is_metadata_ended n past) (not (view.awaits_metadata row)) (all_settled n past) (view.are_settled row.targets) sent (row-ended script h n legal) (sym settled)
  where
    at : (o : Option TargetView) → view.is_settled_at o ≡ each_of (λ t. view.is_settled t.state) o
    at None = refl
    at (Some t) = refl

    by : (sent ended ended' back back' : Bool) → sent ≡ true → ended ≡ ended' → back ≡ back' → (sent && not (ended && back)) ≡ not (ended' && back')
    by sent ended ended' back back' a b c = rw (a, b, c) refl

closed-on : (script : Script) (past : List Entry) (o : Option Entry) (n : ℕ) → IsLegal script (with_entry o past) → is_sent n past ≡ true → is_open n past ≡ false → is_open n (with_entry o past) ≡ false
closed-on script past (Some e) n legal sent closed = closed-stays script past e n legal sent closed
closed-on script past None n legal sent closed = closed

sent-on : (o : Option Entry) (past : List Entry) (n : ℕ) → is_sent n past ≡ true → is_sent n (with_entry o past) ≡ true
sent-on (Some e) past n sent = any-behind (sends n) e past sent
sent-on None past n sent = sent

kept-by : (f g : ℕ → RowView) (p q ok : ℕ → Bool) (k : RowView → RowView) (t : RowView → Bool) → ((x : ℕ) → p x ≡ true → f x ≡ k (g x)) → ((x : ℕ) → ok x ≡ true → q x ≡ t (f x)) → ((x : ℕ) → ok x ≡ true → p x ≡ false → q x ≡ false) → (xs : List ℕ) → list_all ok xs ≡ true → map f (filter q xs) ≡ filter t (map k (map g (filter p xs)))
kept-by f g p q ok k t step open_ stays [] all = refl
kept-by f g p q ok k t step open_ stays (x ∷ xs) all =
    let parts = and_parts (ok x) (list_all ok xs) all in
    let ih = kept-by f g p q ok k t step open_ stays xs parts.1 in
    elim (cases_Bool (p x)) [
      | inl was ↦ (
          let now' : q x ≡ t (k (g x)) = open_ x parts.0 ∙ ap t (step x was) in
          elim (cases_Bool (q x)) [
            | inl now ↦ (let now'' : t (k (g x)) ≡ true = sym now' ∙ now in rw (was, now, now'', step x was, ih) refl)
            | inr no' ↦ (let now'' : t (k (g x)) ≡ false = sym now' ∙ no' in rw (was, no', now'') ih)
          ]
          )
      | inr was ↦ rw (was, stays x parts.0 was) ih
    ]

-- the old rows after a move, each with its change
pub old-rows : (script : Script) (m : Move) (h : List Move) (k : RowView → RowView) → IsRun script (m ∷ h) → ((n : ℕ) → is_open n (trace_of h) ≡ true → row_of script (m ∷ h) n ≡ k (row_of script h n)) → map (row_of script (m ∷ h)) (filter (λ n. is_open n (trace_of (m ∷ h))) (reverse (frames (trace_of h)))) ≡ filter view.is_open (map k (rows script h))
old-rows script m h k run each =
    let past = trace_of h in
    let legal = runs_legally script (m ∷ h) run in
    kept-by (row_of script (m ∷ h)) (row_of script h) (λ n. is_open n past) (λ n. is_open n (trace_of (m ∷ h))) (λ n. is_sent n past) k view.is_open each
    (λ n sent. row-open script (m ∷ h) n legal (sent-on m.entry past n sent))
    (λ n sent closed. closed-on script past m.entry n legal sent closed)
    (reverse (frames past)) (sent-in-order h)

pub rows-changed : (script : Script) (m : Move) (h : List Move) (k : RowView → RowView) → IsRun script (m ∷ h) → frames (trace_of (m ∷ h)) ≡ frames (trace_of h) → ((n : ℕ) → is_open n (trace_of h) ≡ true → row_of script (m ∷ h) n ≡ k (row_of script h n)) → rows script (m ∷ h) ≡ filter view.is_open (map k (rows script h))
rows-changed script m h k run same each =
    ap (λ (xs : List ℕ). map (row_of script (m ∷ h)) (filter (λ n. is_open n (trace_of (m ∷ h))) (reverse xs))) same ∙ old-rows script m h k run each
