use Rattle.std.specs.Prelude.{◌≡◌, ◌≤◌, ℕ, ◌==◌, ◌+◌, Bool, true, false, ◌&&◌, ◌||◌, not, List, [], ◌∷◌, Option, Some, None, find, is_some, length, map, max, nat_le, nat_lt, count_by, slice_get, if◌then◌else◌}
use Rattle.std.specs.List.{list_any, list_all}
use Rattle.cam_types.specs.Metadata.{part_at}
use Rattle.cam_types.specs.declared.number.FenceNo.{FenceNo}
use Rattle.cam_types.specs.declared.script.Script.{Script}
use Rattle.cam_types.specs.declared.stream.StreamSpec.{StreamSpec}
use Rattle.trace_model.specs.declared.entry.Entry.{Entry}
use Rattle.trace_model.specs.declared.entry.Entry.TheVariants.{Begin, Shutter, Partial, Filled, Failed, ErrorRequest, ErrorResult, ErrorBuffer, ErrorDevice, Early, Late}
use Rattle.trace_model.specs.Errors.{error_buffer_due, error_device_due, error_request_due, error_result_due, failed_due}
use Rattle.trace_model.specs.Faults.{buffer_fault, device_fault, request_fault, result_fault}
use Rattle.trace_model.specs.Client.{done_since_begin}
use Rattle.trace_model.specs.Configuration.{streams}
use Rattle.trace_model.specs.Fence.{is_passed}
use Rattle.trace_model.specs.Filled.{early_due, filled_due, late_due}
use Rattle.trace_model.specs.Legal.{IsLegal}
use Rattle.trace_model.specs.Numbers.{next_early}
use Rattle.trace_model.specs.Open.{is_quiet, open_count}
use Rattle.trace_model.specs.Partial.{partial_due}
use Rattle.trace_model.specs.Picture.{digest_on}
use Rattle.trace_model.specs.Send.{at_device_count}
use Rattle.trace_model.specs.Shutter.{next_time, shutter_due}
use Rattle.trace_model.specs.Stopping.{is_stopping}
use Rattle.state_facts.specs.Clients.{finishes}
use Rattle.state_facts.specs.Row.{Row, Target, is_ended, is_open_row, row_after, open_rows}
use Rattle.trace_laws.specs.Settled.{has_fence}
use Rattle.cam_types.specs.Limits.{frame_time}

-- What the definitions ask about frames, as functions of the rows.

abbrev pub row_at : ℕ → List Row → Option Row
row_at n rows = find (λ r. r.number == n) rows

-- what is due of a frame that has a row
abbrev pub on_row : (Row → Option Entry) → Option Row → Option Entry
on_row f (Some r) = f r
on_row f None = None

abbrev pub is_none_left : List Row → Bool
is_none_left [] = true
is_none_left _ = false

-- the test holds of each row of a smaller frame
abbrev pub each_below : ℕ → (Row → Bool) → List Row → Bool
each_below n q rows = list_all (λ r. not (nat_lt r.number n) || q r) rows

-- ---- the sensor

abbrev pub is_unexposed : Row → Bool
is_unexposed r = not (is_some r.shutter) && not r.request_error

-- the row that the sensor takes next
abbrev pub next_exposed : List Row → Option Row
next_exposed rows = find is_unexposed rows

abbrev pub shutter_from : Script → Bool → ℕ → Option Row → Option Entry
shutter_from script stopping time (Some r) =
    if not stopping && not (device_fault script r.number) then Some (Shutter (record { 0 = r.number }) time) else None
shutter_from script stopping time None = None

abbrev pub device_fails : Script → Bool → Option Row → Bool
device_fails script stopping (Some r) = not stopping && device_fault script r.number
device_fails script stopping None = false

-- the time of the next shutter, by that of the last and the exposure of its frame
abbrev pub exposure_in : Option Row → ℕ
exposure_in (Some r) = r.settings.exposure
exposure_in None = 0

abbrev pub time_after : List Row → Entry → ℕ → ℕ
time_after rows (Shutter n time) next = time + max frame_time (exposure_in (row_at n.0 rows))
time_after rows _ next = next

-- ---- metadata

abbrev pub may_part_row : Script → List Row → Row → ℕ → Bool
may_part_row script rows r k =
    (not r.request_error && (not r.result_error && not (request_fault script r.number)))
    && (nat_le k 3 && (not (k == 3) || (not (result_fault script r.number) && each_below r.number is_ended rows)))

abbrev pub part_from : Script → List Row → Row → ℕ → Option ℕ → Option Entry
part_from script rows r k (Some time) =
    if may_part_row script rows r k then Some (Partial (record { 0 = r.number }) k (part_at k r.settings time))
    else None
part_from script rows r k None = None

abbrev pub part_row : Script → List Row → Row → Option Entry
part_row script rows r = part_from script rows r (r.parts + 1) r.shutter

-- ---- errors

abbrev pub has_something_row : Row → Bool
has_something_row r =
    nat_lt 0 r.parts
    || (list_any (λ t. t.returned) r.targets
    || (r.request_error || (r.result_error || list_any (λ t. t.announced) r.targets)))

abbrev pub request_row : Script → Row → Option Entry
request_row script r =
    if not (has_something_row r) && ((request_fault script r.number && is_some r.shutter) || r.stopped)
    then Some (ErrorRequest (record { 0 = r.number })) else None

abbrev pub began : Script → Row → Bool
began script r = is_some r.shutter && (not (request_fault script r.number) || r.stopped)

abbrev pub result_row : Script → List Row → Row → Option Entry
result_row script rows r =
    if (began script r && not (is_ended r))
    && (each_below r.number is_ended rows && (result_fault script r.number || (r.stopped && has_something_row r)))
    then Some (ErrorResult (record { 0 = r.number })) else None

abbrev pub target_in : ℕ → Row → Option Target
target_in s r = find (λ t. t.sent.stream.0 == s) r.targets

abbrev pub buffer_from : Script → ℕ → Row → Option Target → Option Entry
buffer_from script s r (Some t) =
    if (began script r && not r.request_error)
    && ((not t.announced && not t.returned)
    && (buffer_fault script r.number s || (r.stopped && has_something_row r)))
    then Some (ErrorBuffer (record { 0 = r.number }) (record { 0 = s })) else None
buffer_from script s r None = None

abbrev pub buffer_row : Script → ℕ → Row → Option Entry
buffer_row script s r = buffer_from script s r (target_in s r)

-- ---- deliveries

abbrev pub lets_pass_row : ℕ → Row → Bool
lets_pass_row s r =
    r.request_error || list_all (λ t. not (t.sent.stream.0 == s) || (t.returned || t.announced)) r.targets

-- nothing says that the target's buffer fails
abbrev pub is_sound_row : Script → ℕ → Row → Target → Bool
is_sound_row script s r t =
    (not (request_fault script r.number) && not (buffer_fault script r.number s))
    && (not r.request_error && not t.announced)

abbrev pub may_deliver_row : Script → List Row → (Option FenceNo → Bool) → ℕ → Row → Target → Bool
may_deliver_row script rows passed s r t =
    (not t.returned && (is_some r.shutter && is_sound_row script s r t))
    && (passed t.sent.fence && each_below r.number (lets_pass_row s) rows)

-- of the streams of the configuration, and with a test that says which fences are passed
abbrev pub filled_from : Script → List StreamSpec → List Row → (Option FenceNo → Bool) → ℕ → Row → Option Target →
    Option Entry
filled_from script streams rows passed s r (Some t) =
    if may_deliver_row script rows passed s r t
    then Some (Filled (record { 0 = r.number }) (record { 0 = s }) t.sent.buffer None
    (digest_on (slice_get streams s) r.settings r.number)) else None
filled_from script streams rows passed s r None = None

abbrev pub filled_row : Script → List StreamSpec → List Row → (Option FenceNo → Bool) → ℕ → Row → Option Entry
filled_row script streams rows passed s r = filled_from script streams rows passed s r (target_in s r)

abbrev pub failed_from : (Option FenceNo → Bool) → ℕ → Row → Option Target → Option Entry
failed_from passed s r (Some t) =
    if not t.returned && (r.request_error || t.announced)
    then Some (Failed (record { 0 = r.number }) (record { 0 = s }) t.sent.buffer
    (if passed t.sent.fence then None else t.sent.fence)) else None
failed_from passed s r None = None

abbrev pub failed_row : (Option FenceNo → Bool) → ℕ → Row → Option Entry
failed_row passed s r = failed_from passed s r (target_in s r)

-- ---- early returns

-- with the number of the next device fence
abbrev pub early_from : Script → List Row → (Option FenceNo → Bool) → ℕ → ℕ → Row → Option Target → Option Entry
early_from script rows passed next s r (Some t) =
    if script.early && may_deliver_row script rows passed s r t
    then Some (Early (record { 0 = r.number }) (record { 0 = s }) t.sent.buffer (record { 0 = next })) else None
early_from script rows passed next s r None = None

abbrev pub early_row : Script → List Row → (Option FenceNo → Bool) → ℕ → ℕ → Row → Option Entry
early_row script rows passed next s r = early_from script rows passed next s r (target_in s r)

-- the target came back early with device fence d, which isn't signalled
abbrev pub is_pending : ℕ → Target → Bool
is_pending d t = has_fence d t.given && not t.settled

abbrev pub has_pending : ℕ → Row → Bool
has_pending d r = list_any (is_pending d) r.targets

abbrev pub late_from : List StreamSpec → ℕ → Row → Option Target → Option Entry
late_from streams d r (Some t) =
    Some (Late (record { 0 = d }) (digest_on (slice_get streams t.sent.stream.0) r.settings r.number))
late_from streams d r None = None

abbrev pub late_row : List StreamSpec → ℕ → Row → Option Entry
late_row streams d r = late_from streams d r (find (is_pending d) r.targets)

-- ---- buffers at the device

-- the row has a buffer of stream s that didn't come back
abbrev pub is_out_for : ℕ → Row → Bool
is_out_for s r = list_any (λ t. (t.sent.stream.0 == s) && not t.returned) r.targets

-- ---- the laws

abbrev pub QuietReads : Script → List Entry → Type 0
QuietReads script past = IsLegal script past → is_quiet past ≡ is_none_left (open_rows script past)

abbrev pub CountReads : Script → List Entry → Type 0
CountReads script past = IsLegal script past → open_count past ≡ length (open_rows script past)

abbrev pub PartReads : Script → List Entry → Type 0
PartReads script past =
    IsLegal script past → (n : ℕ) →
    partial_due script past n ≡ on_row (part_row script (open_rows script past)) (row_at n (open_rows script past))

abbrev pub ShutterReads : Script → List Entry → Type 0
ShutterReads script past =
    IsLegal script past →
    shutter_due script past ≡
    shutter_from script (is_stopping past) (next_time script past) (next_exposed (open_rows script past))

abbrev pub DeviceReads : Script → List Entry → Type 0
DeviceReads script past =
    IsLegal script past →
    error_device_due script past ≡
    (if device_fails script (is_stopping past) (next_exposed (open_rows script past)) then Some ErrorDevice else None)

abbrev pub TimeReads : Script → List Entry → Entry → Type 0
TimeReads script past e =
    IsLegal script (e ∷ past) →
    next_time script (e ∷ past) ≡ time_after (open_rows script past) e (next_time script past)

abbrev pub RequestReads : Script → List Entry → Type 0
RequestReads script past =
    IsLegal script past → (n : ℕ) →
    error_request_due script past n ≡ on_row (request_row script) (row_at n (open_rows script past))

abbrev pub ResultReads : Script → List Entry → Type 0
ResultReads script past =
    IsLegal script past → (n : ℕ) →
    error_result_due script past n ≡
    on_row (result_row script (open_rows script past)) (row_at n (open_rows script past))

abbrev pub BufferReads : Script → List Entry → Type 0
BufferReads script past =
    IsLegal script past → (n s : ℕ) →
    error_buffer_due script past n s ≡ on_row (buffer_row script s) (row_at n (open_rows script past))

abbrev pub FilledReads : Script → List Entry → Type 0
FilledReads script past =
    IsLegal script past → (n s : ℕ) →
    filled_due script past n s ≡
    on_row (filled_row script (streams script past) (open_rows script past) (λ f. is_passed f past) s)
    (row_at n (open_rows script past))

abbrev pub FailedReads : Script → List Entry → Type 0
FailedReads script past =
    IsLegal script past → (n s : ℕ) →
    failed_due past n s ≡ on_row (failed_row (λ f. is_passed f past) s) (row_at n (open_rows script past))

abbrev pub EarlyReads : Script → List Entry → Type 0
EarlyReads script past =
    IsLegal script past → (n s : ℕ) →
    early_due script past n s ≡
    on_row (early_row script (open_rows script past) (λ f. is_passed f past) (next_early past) s)
    (row_at n (open_rows script past))

-- the signal of a device fence is of the row that waits for it
abbrev pub LateReads : Script → List Entry → Type 0
LateReads script past =
    IsLegal script past → (d : ℕ) →
    late_due script past d ≡
    on_row (late_row (streams script past) d) (find (has_pending d) (open_rows script past))

abbrev pub OutReads : Script → List Entry → Type 0
OutReads script past =
    IsLegal script past → (s : ℕ) → at_device_count past s ≡ count_by (is_out_for s) (open_rows script past)

-- ---- what holds of the rows themselves

-- the streams of these targets rise, and are among the four that a configuration may have
abbrev pub rise : List ℕ → Bool
rise [] = true
rise (s ∷ streams) = list_all (λ u. nat_lt s u) streams && rise streams

abbrev pub stream_of : Target → ℕ
stream_of t = t.sent.stream.0

abbrev pub is_orderly : Row → Bool
is_orderly r = rise (map stream_of r.targets) && list_all (λ t. nat_lt (stream_of t) 4) r.targets

abbrev pub RowsOrderly : Script → List Entry → Type 0
RowsOrderly script past = IsLegal script past → list_all is_orderly (open_rows script past) ≡ true

-- as many rows have room as the device takes frames
abbrev pub RowsFew : Script → List Entry → Type 0
RowsFew script past = IsLegal script past → length (open_rows script past) ≤ script.profile.depth

-- ---- repeating frames that were done with since the last begin

-- the row is of a repeating request, and the entry closes it
abbrev pub closes : Entry → Row → Bool
closes e r = r.repeats && not (is_open_row (row_after e r))

-- a begin counts anew; each other entry adds the rows that it closes
abbrev pub done_after : List Row → Entry → ℕ → ℕ
done_after rows (Begin word) done = 0
done_after rows e done = done + count_by (closes e) rows

abbrev pub DoneReads : Script → List Entry → Entry → Type 0
DoneReads script past e =
    IsLegal script (e ∷ past) →
    done_since_begin script (e ∷ past) ≡ done_after (open_rows script past) e (done_since_begin script past)

-- the entry closes a row of a repeating request
abbrev pub closes_one : Entry → Option Row → Bool
closes_one e (Some r) = closes e r
closes_one e None = false

-- the entry is the last of a frame of a repeating request: of the one that it tells of, or that waits for the device
-- fence
abbrev pub finishes_in : Entry → List Row → Bool
finishes_in (Partial n k part) rows = closes_one (Partial n k part) (row_at n.0 rows)
finishes_in (Filled n s b f digest) rows = closes_one (Filled n s b f digest) (row_at n.0 rows)
finishes_in (Failed n s b f) rows = closes_one (Failed n s b f) (row_at n.0 rows)
finishes_in (ErrorRequest n) rows = closes_one (ErrorRequest n) (row_at n.0 rows)
finishes_in (ErrorResult n) rows = closes_one (ErrorResult n) (row_at n.0 rows)
finishes_in (Late d digest) rows = closes_one (Late d digest) (find (has_pending d.0) rows)
finishes_in _ rows = false

abbrev pub LastReads : Script → List Entry → Entry → Type 0
LastReads script past e = IsLegal script (e ∷ past) → finishes script past e ≡ finishes_in e (open_rows script past)
