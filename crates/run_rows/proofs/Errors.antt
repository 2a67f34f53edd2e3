-- The error of a frame that is due is read from the rows, by the verdict on the frame's row.
use Rattle.std.proofs.Common.{◌≡◌, ℕ, ◌==◌, Bool, true, false, ◌&&◌, ◌||◌, not, List, [], ◌∷◌, Option, Some, None, refl, sym, ap, ◌∙◌, find, map, nat_lt, if◌then◌else◌}
use Rattle.std.specs.List.{list_all, list_any}
use Rattle.std.specs.Option.{option_map}
use Rattle.std.proofs.lemmas.Bool.{and_parts, eq-eqb, or_right}
use Rattle.run_rows.proofs.General.{find-where, find-and, if-same}
use Rattle.cam_types.specs.Four.{four_list}
use Rattle.cam_types.specs.Rows.{is_returned as is_back}
use Rattle.cam_types.specs.declared.row.TargetView.{TargetView}
use Rattle.cam_types.specs.declared.script.Script.{Script}
use Rattle.trace_model.specs.declared.entry.Entry.{Entry}
use Rattle.trace_model.specs.declared.entry.Entry.TheVariants.{ErrorRequest, ErrorResult, ErrorBuffer, ErrorDevice}
use Rattle.trace_model.specs.declared.entry.Sent.{Sent}
use Rattle.trace_model.specs.Errors.{error_request_due, error_result_due, is_cut_short as cut, may_fail_buffer, may_fail_request, may_fail_result}
use Rattle.trace_model.specs.Faults.{buffer_fault, request_fault, result_fault}
use Rattle.trace_model.specs.Frames.{each_earlier, has_error_request, has_shutter, has_target, targets_of}
use Rattle.trace_model.specs.Legal.{IsLegal}
use Rattle.trace_model.specs.Open.{has_error_buffer, has_error_result, has_something, is_metadata_ended, is_open, is_returned}
use Rattle.trace_model.specs.Partial.{partial_count}
use Rattle.trace_model.specs.Stopping.{is_stopped}
use Rattle.run_model.specs.declared.step.Move.{Move}
use Rattle.run_model.specs.History.{trace_of}
use Rattle.run_model.specs.Ready.{error_due, failure_at, first_buffer_error, least_buffer_error, or_entry}
use Rattle.run_model.specs.Rows.{row_of, rows, target_view}
use Rattle.run_model.specs.Run.{IsRun}
use Rattle.device_rows.specs.declared.entry.ErrorEntry.{ErrorEntry}
use Rattle.device_rows.specs.declared.entry.ErrorEntry.TheVariants.{Device}
use Rattle.device_rows.specs.Due.{fails_in_part, fails_whole, is_bare, is_cut_short, misses_metadata}
use Rattle.device_rows.specs.Faults.{faults_of}
use Rattle.device_rows.specs.Ready.{error_of, fails_device_at, may_end_metadata, next_error}
use Rattle.device_rows.specs.Rows.{row_at}
use Rattle.basic_lemmas.proofs.Lists.{all-mapped, all-where, any-mapped, find-mapped, find-none, any-agree, found-passes}
use Rattle.run_model.proofs.Entries.{open-sent}
use Rattle.run_model.proofs.Legal.{runs_legally}
use Rattle.state_facts.specs.FrameReadings.{rise}
use Rattle.state_facts.specs.Row.{target_at}
use Rattle.state_facts.proofs.Orderly.{sent_fine, streams_of}
use Rattle.state_facts.proofs.Something.{something-reads}
use Rattle.trace_laws.proofs.Times.{timed-shutter}
use Rattle.run_rows.proofs.Closed.{buffer-closed, request-closed, result-closed}
use Rattle.run_rows.specs.Entries.{error_entry}
use Rattle.run_rows.proofs.Fours.{row-targets}
use Rattle.run_rows.proofs.Frames.{by-row}
use Rattle.run_rows.proofs.Parts.{earlier-ended, row-ended}
use Rattle.run_rows.proofs.Sensor.{failure_is}
use Rattle.run_rows.proofs.States.{state-returned}
use Rattle.run_rows.proofs.Verdicts.{are_rising, bare-row, came, first_lost, missing, verdict-names}

-- ---- something of the frame came

row-back : (script : Script) (h : List Move) (n : ℕ) → list_any (λ t. is_back t.state) (four_list (row_of script h n).targets) ≡ list_any (λ t. t.returned) (map (target_at n (trace_of h)) (targets_of n (trace_of h)))
row-back script h n =
    let past = trace_of h in
    ap (λ (ts : List TargetView). list_any (λ t. is_back t.state) ts) (row-targets script h n)
    ∙ (any-mapped (λ (t : TargetView). is_back t.state) (target_view h n) (targets_of n past)
    ∙ (any-agree (λ t. is_back (target_view h n t).state) (λ t. is_returned n t.stream.0 past) (targets_of n past) (λ t. state-returned h n t.stream.0)
    ∙ sym (any-mapped (λ t. t.returned) (target_at n past) (targets_of n past))))

row-announced : (script : Script) (h : List Move) (n : ℕ) → list_any (λ t. t.announced) (four_list (row_of script h n).targets) ≡ list_any (λ t. t.announced) (map (target_at n (trace_of h)) (targets_of n (trace_of h)))
row-announced script h n =
    let past = trace_of h in
    ap (λ (ts : List TargetView). list_any (λ t. t.announced) ts) (row-targets script h n)
    ∙ (any-mapped (λ (t : TargetView). t.announced) (target_view h n) (targets_of n past)
    ∙ sym (any-mapped (λ t. t.announced) (target_at n past) (targets_of n past)))

row-came : (script : Script) (h : List Move) (n : ℕ) → IsLegal script (trace_of h) → came (row_of script h n) ≡ has_something n (trace_of h)
row-came script h n legal =
    let past = trace_of h in
    both (λ a b. nat_lt 0 (partial_count n past) || (a || (has_error_request n past || (has_error_result n past || b)))) _ _ _ _ (row-back script h n) (row-announced script h n)
    ∙ sym (something-reads script past n legal)
  where
    both : (f : Bool → Bool → Bool) (a a' b b' : Bool) → a ≡ a' → b ≡ b' → f a b ≡ f a' b'
    both f a a' b b' x y = rw (x, y) refl

row-bare : (script : Script) (h : List Move) (n : ℕ) → IsLegal script (trace_of h) → is_bare (row_of script h n) ≡ not (has_something n (trace_of h))
row-bare script h n legal = bare-row (row_of script h n) ∙ ap not (row-came script h n legal)

row-cut : (script : Script) (h : List Move) (n : ℕ) → IsLegal script (trace_of h) → is_cut_short (row_of script h n) ≡ cut (trace_of h) n
row-cut script h n legal = ap (λ b. is_stopped n (trace_of h) && not b) (row-bare script h n legal) ∙ by (is_stopped n (trace_of h)) (has_something n (trace_of h))
  where
    by : (a b : Bool) → (a && not (not b)) ≡ (a && b)
    by true true = refl
    by true false = refl
    by false b = refl

-- ---- the capture fails whole, or its metadata does

request-open : (script : Script) (h : List Move) (n : ℕ) → IsLegal script (trace_of h) → is_open n (trace_of h) ≡ true → may_fail_request script (trace_of h) n ≡ fails_whole (row_of script h n) (faults_of script.faults (row_of script h n))
request-open script h n legal open_ =
    let past = trace_of h in
    by (is_open n past) (has_something n past) _ (request_fault script n) (has_shutter n past) _ (is_stopped n past) open_ (row-bare script h n legal) (timed-shutter n past)
  where
    by : (open_ some bare fault shot shot' stopped : Bool) → open_ ≡ true → bare ≡ not some → shot ≡ shot' → ((open_ && not some) && ((fault && shot) || stopped)) ≡ (bare && (stopped || (fault && shot')))
    by open_ some bare fault shot shot' stopped a b c = rw (a, b, c) (turned some (fault && shot') stopped)
      where
        turned : (x y z : Bool) → (not x && (y || z)) ≡ (not x && (z || y))
        turned true y z = refl
        turned false true true = refl
        turned false true false = refl
        turned false false true = refl
        turned false false false = refl

result-open : (script : Script) (h : List Move) (n : ℕ) → IsLegal script (trace_of h) → may_fail_result script (trace_of h) n ≡ (fails_in_part (row_of script h n) (faults_of script.faults (row_of script h n)) && (misses_metadata (row_of script h n) (faults_of script.faults (row_of script h n)) && may_end_metadata (rows script h) n))
result-open script h n legal =
    let past = trace_of h in
    by (has_shutter n past) _ (not (request_fault script n) || is_stopped n past) (is_metadata_ended n past) (nat_lt (partial_count n past) 3) (has_error_result n past) (has_error_request n past) (each_earlier n (λ m. is_metadata_ended m past) past) _ (result_fault script n) (cut past n) _
    (timed-shutter n past) (row-ended script h n legal) (earlier-ended script h n legal) (row-cut script h n legal)
  where
    by : (shot shot' begun ended low e q may may' fault short short' : Bool) → shot ≡ shot' → ended ≡ not (low && (not e && not q)) → may ≡ may' → short' ≡ short → (((shot && begun) && not ended) && (may && (fault || short))) ≡ (((shot' && not q) && begun) && (((low && (not e && not q)) && (fault || short')) && may'))
    by shot shot' begun ended low e q may may' fault short short' a b c d = rw (a, b, c, d) (turned shot' begun low e q may' (fault || short))
      where
        turned : (s n l e q m c : Bool) → (((s && n) && not (not (l && (not e && not q)))) && (m && c)) ≡ (((s && not q) && n) && (((l && (not e && not q)) && c) && m))
        turned false n l e q m c = refl
        turned true false l e true m c = refl
        turned true false l e false m c = refl
        turned true true l true true m c = none l
          where
            none : (l : Bool) → ((true && not (not (l && (false && false)))) && (m && c)) ≡ false
            none true = refl
            none false = refl
        turned true true l false true m c = none l
          where
            none : (l : Bool) → ((true && not (not (l && (true && false)))) && (m && c)) ≡ false
            none true = refl
            none false = refl
        turned true true true true false m c = refl
        turned true true false true false m c = refl
        turned true true false false false m c = refl
        turned true true true false false true true = refl
        turned true true true false false true false = refl
        turned true true true false false false true = refl
        turned true true true false false false false = refl

-- ---- the first buffer

buffer-by : (has shot shot' begun q e r r' fault short short' : Bool) → has ≡ true → shot ≡ shot' → r' ≡ r → short' ≡ short → ((has && ((shot && begun) && not q)) && ((not e && not r) && (fault || short))) ≡ (((shot' && not q) && begun) && ((not e && not r') && (fault || short')))
buffer-by has shot shot' begun q e r r' fault short short' a b c d = rw (a, b, c, d) (turned shot' begun q ((not e && not r) && (fault || short)))
  where
    turned : (s n q x : Bool) → (((s && n) && not q) && x) ≡ (((s && not q) && n) && x)
    turned true true true x = refl
    turned true true false x = refl
    turned true false true x = refl
    turned true false false x = refl
    turned false n q x = refl

buffer-fails : (script : Script) (h : List Move) (n : ℕ) (t : Sent) → IsLegal script (trace_of h) → has_target n t.stream.0 (trace_of h) ≡ true → may_fail_buffer script (trace_of h) n t.stream.0 ≡ (fails_in_part (row_of script h n) (faults_of script.faults (row_of script h n)) && missing script.faults (row_of script h n) (target_view h n t))
buffer-fails script h n t legal has =
    let past = trace_of h in
    let s = t.stream.0 in
    buffer-by (has_target n s past) (has_shutter n past) _ (not (request_fault script n) || is_stopped n past) (has_error_request n past) (has_error_buffer n s past) (is_returned n s past) _ (buffer_fault script n s) (cut past n) _
    has (timed-shutter n past) (state-returned h n s) (row-cut script h n legal)

pub own-stream : (ts : List Sent) → list_all (λ t. list_any (λ u. u.stream.0 == t.stream.0) ts) ts ≡ true
own-stream [] = refl
own-stream (t ∷ ts) = rw (eq-eqb t.stream.0 t.stream.0 refl) (all-where (λ x. list_any (λ u. u.stream.0 == x.stream.0) ts) (λ x. list_any (λ u. u.stream.0 == x.stream.0) (t ∷ ts)) ts (λ x h. or_right (t.stream.0 == x.stream.0) (list_any (λ u. u.stream.0 == x.stream.0) ts) h) (own-stream ts))

lost-mapped : (h : List Move) (n : ℕ) (b : Bool) (o : Option Sent) → option_map (λ t. ErrorBuffer (record { 0 = n }) t.stream) (if b then o else None) ≡ first_lost (record { 0 = n }) (if b then option_map (target_view h n) o else None)
lost-mapped h n true None = refl
lost-mapped h n true (Some t) = refl
lost-mapped h n false o = refl

first-buffer : (script : Script) (past : List Entry) (n : ℕ) (o : Option Sent) → find (λ t. may_fail_buffer script past n t.stream.0) (targets_of n past) ≡ o → first_buffer_error script past n o ≡ option_map (λ t. ErrorBuffer (record { 0 = n }) t.stream) o
first-buffer script past n None at = refl
first-buffer script past n (Some t) at =
    let may : may_fail_buffer script past n t.stream.0 ≡ true = found-passes {X = Sent} (λ u. may_fail_buffer script past n u.stream.0) (targets_of n past) t at in
    rw may refl

buffer-open : (script : Script) (h : List Move) (n : ℕ) → IsLegal script (trace_of h) → least_buffer_error script (trace_of h) n ≡ first_lost (record { 0 = n }) (if fails_in_part (row_of script h n) (faults_of script.faults (row_of script h n)) then find (missing script.faults (row_of script h n)) (four_list (row_of script h n).targets) else None)
buffer-open script h n legal =
    let past = trace_of h in
    let row = row_of script h n in
    let part = fails_in_part row (faults_of script.faults row) in
    let ts = targets_of n past in
    let p : Sent → Bool = λ t. missing script.faults row (target_view h n t) in
    first-buffer script past n (find (λ t. may_fail_buffer script past n t.stream.0) ts) refl
    ∙ (ap (λ (o : Option Sent). option_map (λ t. ErrorBuffer (record { 0 = n }) t.stream) o)
    (find-where (λ t. has_target n t.stream.0 past) (λ t. may_fail_buffer script past n t.stream.0) (λ t. part && p t) ts (λ t has. buffer-fails script h n t legal has) (own-stream ts) ∙ find-and part p ts)
    ∙ (lost-mapped h n part (find p ts)
    ∙ ap (λ (o : Option TargetView). first_lost (record { 0 = n }) (if part then o else None))
    (sym (find-mapped (missing script.faults row) (target_view h n) ts) ∙ ap (λ (vs : List TargetView). find (missing script.faults row) vs) (sym (row-targets script h n)))))

-- ---- the targets of a row are in order

rising-views : (h : List Move) (n : ℕ) (ts : List Sent) → are_rising (map (target_view h n) ts) ≡ rise (streams_of ts)
rising-views h n [] = refl
rising-views h n (t ∷ ts) =
    rw (all-mapped (λ u. nat_lt t.stream.0 u.stream.0) (target_view h n) ts, all-mapped (λ s. nat_lt t.stream.0 s) (λ u. u.stream.0) ts, rising-views h n ts) refl

pub row-rises : (script : Script) (h : List Move) (n : ℕ) → IsLegal script (trace_of h) → is_open n (trace_of h) ≡ true → are_rising (four_list (row_of script h n).targets) ≡ true
row-rises script h n legal open_ =
    let past = trace_of h in
    ap are_rising (row-targets script h n)
    ∙ (rising-views h n (targets_of n past)
    ∙ (and_parts (rise (streams_of (targets_of n past))) (list_all (λ s. nat_lt s 4) (streams_of (targets_of n past))) (sent_fine script past n legal (open-sent n past open_))).0)

-- ---- the error of the frame

or-agree : (a a' b b' c c' : Option Entry) → a ≡ a' → b ≡ b' → c ≡ c' → or_entry a (or_entry b c) ≡ or_entry a' (or_entry b' c')
or-agree a a' b b' c c' x y z = rw (x, y, z) refl

abbrev pub rest_due : Script → List Entry → ℕ → Option Entry
rest_due script past n = or_entry (error_request_due script past n) (or_entry (error_result_due script past n) (least_buffer_error script past n))

rest-open : (script : Script) (h : List Move) (n : ℕ) → IsLegal script (trace_of h) → is_open n (trace_of h) ≡ true → rest_due script (trace_of h) n ≡ option_map error_entry (error_of script.faults (rows script h) (Some (row_of script h n)))
rest-open script h n legal open_ =
    let row = row_of script h n in
    or-agree _ _ _ _ _ _ (if-same _ _ (ErrorRequest (record { 0 = n })) (request-open script h n legal open_)) (if-same _ _ (ErrorResult (record { 0 = n })) (result-open script h n legal)) (buffer-open script h n legal)
    ∙ sym (verdict-names script.faults row (fails_whole row (faults_of script.faults row)) (misses_metadata row (faults_of script.faults row)) (may_end_metadata (rows script h) n) (row-rises script h n legal open_))

rest-closed : (script : Script) (past : List Entry) (n : ℕ) → IsLegal script past → is_open n past ≡ false → rest_due script past n ≡ None
rest-closed script past n legal closed =
    or-agree _ None _ None _ None (request-closed script past n legal closed) (result-closed script past n legal closed)
    (ap (λ (o : Option Sent). first_buffer_error script past n o) (find-none (λ (t : Sent). may_fail_buffer script past n t.stream.0) (targets_of n past) (λ t. buffer-closed script past n t.stream.0 legal closed)))

rest-is : (script : Script) (h : List Move) (n : ℕ) → IsLegal script (trace_of h) → rest_due script (trace_of h) n ≡ option_map error_entry (error_of script.faults (rows script h) (row_at n (rows script h)))
rest-is script h n legal =
    by-row script h n (λ row. option_map error_entry (error_of script.faults (rows script h) row)) (rest_due script (trace_of h) n)
    (λ open_. rest-open script h n legal open_) (λ closed. rest-closed script (trace_of h) n legal closed)

device-first : (b : Bool) (o : Option ErrorEntry) → or_entry (if b then Some ErrorDevice else None) (option_map error_entry o) ≡ option_map error_entry (if b then Some Device else o)
device-first true o = refl
device-first false None = refl
device-first false (Some e) = refl

pub error_is : (script : Script) (h : List Move) (n : ℕ) → IsRun script h → error_due script (trace_of h) n ≡ option_map error_entry (next_error script.faults (rows script h) n)
error_is script h n run =
    let legal = runs_legally script h run in
    both (failure_at script (trace_of h) n) _ (rest_due script (trace_of h) n) _ (failure_is script h n legal) (rest-is script h n legal)
    ∙ device-first (fails_device_at script.faults (rows script h) n) (error_of script.faults (rows script h) (row_at n (rows script h)))
  where
    both : (a a' b b' : Option Entry) → a ≡ a' → b ≡ b' → or_entry a b ≡ or_entry a' b'
    both a a' b b' x y = rw (x, y) refl
