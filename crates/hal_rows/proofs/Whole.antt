-- The state of a log, one event after the other, and its report.
use Rattle.std.proofs.Common.{◌≡◌, ℕ, Bool, true, false, ◌||◌, List, [], ◌∷◌, ◌++◌, refl, ap, ◌∙◌, filter, length, map, if◌then◌else◌}
use Rattle.std.proofs.lemmas.Bool.{false≢true}
use Rattle.hal_model.specs.declared.event.HalEvent.{HalEvent}
use Rattle.hal_model.specs.declared.event.HalEvent.TheVariants.{RequestBegin, OpenOk}
use Rattle.hal_model.specs.declared.rule.Breach.{Breach}
use Rattle.hal_model.specs.declared.rule.Rule.{Rule}
use Rattle.hal_model.specs.declared.rule.Rule.TheVariants.{InitOrder, InitTwice, NoConfiguration, NoOutput, NoSettings, TwoInputs, ConfigureInFlight, OverlappingCalls, CallAfterClose, FrameNumber, HeldBuffer, RepeatedStream, TooManyBuffers, UnknownStream, AcceptedBeforeInit, AcceptedInitTwice, AcceptedDead, AcceptedNoOutput, AcceptedTwoInputs, AcceptedNoSettings, AcceptedUnknownStream, NoMaxBuffers, RefusedRequest, RefusedAfterCallback, UnknownFrame, CallbackAfterClose, CallbackAfterFailure, FailedWithFrames, ShutterTwice, ShutterAfterRequestError, EmptyResult, PartialNumber, PartialTwice, MetadataAfterRequestError, MetadataOrder, NotAtDevice, BufferStatus, BufferOrder, FailedBufferOrder, GoodAfterError, AcquireFence, ReleaseFence, ErrorTwice, ErrorBesideRequestError, RequestErrorLate, ErrorForGoodBuffer, ErrorUnknownStream, FlushLeft, CloseLeft, FailedWithoutNotice, NoShutter}
use Rattle.hal_model.specs.Callbacks.{ends_again, heard, names_idle}
use Rattle.hal_model.specs.Rules.{ascending, breaks, breaks_in_session, faults, known, ordered, report_by}
use Rattle.hal_model.specs.Words.{frames, is_dead, is_initialized, is_open_ok, is_outstanding, session}
use Rattle.hal_rows.specs.Judged.{breach_of, breaches_at}
use Rattle.hal_rows.specs.Laws.{BreachesRead, IsHeard, LogNoted, OpenReads, ReportReads, RuleReads, StateNoted}
use Rattle.hal_rows.specs.Noting.{is_stray_at, hal_state_after, opened_state, rows_after}
use Rattle.hal_rows.specs.Row.{begun_count, fresh_row, is_row_outstanding, rows, rows_but}
use Rattle.hal_rows.specs.State.{hal_state}
use Rattle.hal_rows.proofs.Begun.{rows_begun}
use Rattle.hal_rows.proofs.Called.{accepted-before-init, accepted-dead, accepted-init-twice, accepted-no-output, accepted-no-settings, accepted-two-inputs, accepted-unknown-stream, call-after-close, close-left, configure-in-flight, excused, failed-with-frames, failed-without-notice, flush-left, frame-number, held-buffer, init-order, init-twice, no-configuration, no-max-buffers, no-output, no-settings, no-shutter, overlapping-calls, refused-after-callback, refused-request, repeated-stream, too-many-buffers, two-inputs, unknown-stream}
use Rattle.hal_rows.proofs.Faulted.{faults_read}
use Rattle.hal_rows.proofs.Found.{filter-rows}
use Rattle.hal_rows.proofs.Noted.{device_noted}
use Rattle.hal_rows.proofs.Rows.{rows_noted}
use Rattle.hal_rows.proofs.Spoken.{acquire-fence, buffer-order, buffer-status, callback-after-close, callback-after-failure, empty-result, ends-again, error-beside-request-error, error-for-good-buffer, error-twice, error-unknown-stream, failed-buffer-order, good-after-error, metadata-after-request-error, metadata-order, names-idle, not-at-device, partial-number, partial-twice, release-fence, request-error-late, shutter-after-request-error, shutter-twice, unknown-frame}
use Rattle.hal_rows.proofs.Words.{outstanding-live, outstanding-reads}

-- ---- the rules

pub rule_reads : (k : ℕ) (rule : Rule) (e : HalEvent) (past : List HalEvent) → RuleReads k rule e past
rule_reads k InitOrder e past heard = init-order k e past
rule_reads k InitTwice e past heard = init-twice k e past
rule_reads k NoConfiguration e past heard = no-configuration k e past
rule_reads k NoOutput e past heard = no-output k e past
rule_reads k NoSettings e past heard = no-settings k e past
rule_reads k TwoInputs e past heard = two-inputs k e past
rule_reads k ConfigureInFlight e past heard = configure-in-flight k e past heard
rule_reads k OverlappingCalls e past heard = overlapping-calls k e past
rule_reads k CallAfterClose e past heard = call-after-close k e past
rule_reads k FrameNumber e past heard = frame-number k e past
rule_reads k HeldBuffer e past heard = held-buffer k e past
rule_reads k RepeatedStream e past heard = repeated-stream k e past
rule_reads k TooManyBuffers e past heard = too-many-buffers k e past
rule_reads k UnknownStream e past heard = unknown-stream k e past
rule_reads k AcceptedBeforeInit e past heard = accepted-before-init k e past
rule_reads k AcceptedInitTwice e past heard = accepted-init-twice k e past
rule_reads k AcceptedDead e past heard = accepted-dead k e past
rule_reads k AcceptedNoOutput e past heard = accepted-no-output k e past
rule_reads k AcceptedTwoInputs e past heard = accepted-two-inputs k e past
rule_reads k AcceptedNoSettings e past heard = accepted-no-settings k e past
rule_reads k AcceptedUnknownStream e past heard = accepted-unknown-stream k e past
rule_reads k NoMaxBuffers e past heard = no-max-buffers k e past
rule_reads k RefusedRequest e past heard = refused-request k e past
rule_reads k RefusedAfterCallback e past heard = refused-after-callback k e past
rule_reads k UnknownFrame e past heard = unknown-frame k e past
rule_reads k CallbackAfterClose e past heard = callback-after-close k e past
rule_reads k CallbackAfterFailure e past heard = callback-after-failure k e past
rule_reads k FailedWithFrames e past heard = failed-with-frames k e past heard
rule_reads k ShutterTwice e past heard = shutter-twice k e past
rule_reads k ShutterAfterRequestError e past heard = shutter-after-request-error k e past
rule_reads k EmptyResult e past heard = empty-result k e past
rule_reads k PartialNumber e past heard = partial-number k e past
rule_reads k PartialTwice e past heard = partial-twice k e past
rule_reads k MetadataAfterRequestError e past heard = metadata-after-request-error k e past
rule_reads k MetadataOrder e past heard = metadata-order k e past heard
rule_reads k NotAtDevice e past heard = not-at-device k e past
rule_reads k BufferStatus e past heard = buffer-status k e past
rule_reads k BufferOrder e past heard = buffer-order k e past heard
rule_reads k FailedBufferOrder e past heard = failed-buffer-order k e past heard
rule_reads k GoodAfterError e past heard = good-after-error k e past
rule_reads k AcquireFence e past heard = acquire-fence k e past
rule_reads k ReleaseFence e past heard = release-fence k e past
rule_reads k ErrorTwice e past heard = error-twice k e past
rule_reads k ErrorBesideRequestError e past heard = error-beside-request-error k e past
rule_reads k RequestErrorLate e past heard = request-error-late k e past
rule_reads k ErrorForGoodBuffer e past heard = error-for-good-buffer k e past
rule_reads k ErrorUnknownStream e past heard = error-unknown-stream k e past
rule_reads k FlushLeft e past heard = flush-left k e past heard
rule_reads k CloseLeft e past heard = close-left k e past heard
rule_reads k FailedWithoutNotice e past heard = failed-without-notice k e past heard
rule_reads k NoShutter e past heard = no-shutter k e past heard

-- ---- the state

same-state : (k : ℕ) (e : HalEvent) (past : List HalEvent) → rows k (e ∷ past) ≡ rows_after k e (hal_state k past) → hal_state k (e ∷ past) ≡ hal_state_after k e (hal_state k past)
same-state k e past each = rw (device_noted e past, each) refl

pub state_noted : (k : ℕ) (e : HalEvent) (past : List HalEvent) → StateNoted k e past
state_noted k (RequestBegin n same ts a b) past heard now =
    same-state k (RequestBegin n same ts a b) past (rows_begun k n same ts a b past ∙ ap (λ x. fresh_row k n (begun_count past) ts same (is_initialized past) (is_dead past) x ∷ rows_but n (rows k past)) (excused k n same ts a b past))
state_noted k e past heard now = same-state k e past (rows_noted k e past refl now)

-- what is known of a log was heard
pub all-heard : (k : ℕ) (past : List HalEvent) → IsHeard k (heard k past)
all-heard k [] = refl
all-heard k (e ∷ past) = by (names_idle k e (heard k past) || ends_again e (heard k past)) refl (all-heard k past)
  where
    by : (b : Bool) → (names_idle k e (heard k past) || ends_again e (heard k past)) ≡ b → IsHeard k (heard k past) → IsHeard k (if b then heard k past else e ∷ heard k past)
    by true dropped ih = ih
    by false now ih = (now, ih)

stray : (k : ℕ) (e : HalEvent) (past : List HalEvent) → (names_idle k e past || ends_again e past) ≡ is_stray_at e (hal_state k past)
stray k e past = both _ _ _ _ (names-idle k e past) (ends-again k e past)
  where
    both : (a b x y : Bool) → a ≡ x → b ≡ y → (a || b) ≡ (x || y)
    both a b x y h i = rw (h, i) refl

heard-next : (k : ℕ) (e : HalEvent) (past : List HalEvent) → hal_state k (heard k (e ∷ past)) ≡ (if is_stray_at e (hal_state k (heard k past)) then hal_state k (heard k past) else hal_state_after k e (hal_state k (heard k past)))
heard-next k e past = rw (← stray k e (heard k past)) (by (names_idle k e (heard k past) || ends_again e (heard k past)) refl)
  where
    by : (b : Bool) → (names_idle k e (heard k past) || ends_again e (heard k past)) ≡ b → hal_state k (if b then heard k past else e ∷ heard k past) ≡ (if b then hal_state k (heard k past) else hal_state_after k e (hal_state k (heard k past)))
    by true dropped = refl
    by false now = state_noted k e (heard k past) (all-heard k past) now

pub log_noted : (k : ℕ) (e : HalEvent) (log : List HalEvent) → LogNoted k e log
log_noted k e log = by (is_open_ok e) refl
  where
    opens-only : (e : HalEvent) → is_open_ok e ≡ true → e ≡ OpenOk
    opens-only OpenOk h = refl
    opens-only _ h = absurd (false≢true h)

    by : (b : Bool) → is_open_ok e ≡ b → hal_state k (heard k (if b then e ∷ [] else e ∷ session log)) ≡ (if b then opened_state k else (if is_stray_at e (hal_state k (known k log)) then hal_state k (known k log) else hal_state_after k e (hal_state k (known k log))))
    by true open' = rw (opens-only e open') refl
    by false other = heard-next k e (session log)

-- ---- the report

breaches-of : (k : ℕ) (e : HalEvent) (log : List HalEvent) (rule : Rule) → (if breaks k rule e log then map (breach_of (length log) rule) (ordered (faults k rule e (known k log))) else []) ≡ breaches_at k (length log) e (hal_state k (known k log)) rule
breaches-of k e log rule = by (breaks_in_session k rule e (known k log)) refl
  where
    heard' : IsHeard k (known k log)
    heard' = all-heard k (session log)

    by : (b : Bool) → breaks_in_session k rule e (known k log) ≡ b → (if b then map (breach_of (length log) rule) (ordered (faults k rule e (known k log))) else []) ≡ breaches_at k (length log) e (hal_state k (known k log)) rule
    by true breaks' = rw (← rule_reads k rule e (known k log) heard', breaks') (ap (λ fs. map (breach_of (length log) rule) (ordered fs)) (faults_read k rule e (known k log) heard' breaks'))
    by false keeps' = rw (← rule_reads k rule e (known k log) heard', keeps') refl

pub breaches-read : (k : ℕ) (e : HalEvent) (log : List HalEvent) (some : List Rule) → BreachesRead k e log some
breaches-read k e log [] = refl
breaches-read k e log (rule ∷ some) = both _ _ _ _ (breaches-of k e log rule) (breaches-read k e log some)
  where
    both : (a b x y : List Breach) → a ≡ x → b ≡ y → (a ++ b) ≡ (x ++ y)
    both a b x y h i = rw (h, i) refl

pub report_reads : (k : ℕ) (e : HalEvent) (log : List HalEvent) (some : List Rule) → ReportReads k e log some
report_reads k e log some = ap (λ x. report_by some k log ++ x) (breaches-read k e log some)

pub open_reads : (k : ℕ) (log : List HalEvent) → OpenReads k log
open_reads k log = ap ascending (map-id (filter (λ n. is_outstanding k n (known k log)) (frames (known k log))) ∙ listed)
  where
    map-id : (ns : List ℕ) → ns ≡ map (λ n. n) ns
    map-id [] = refl
    map-id (n ∷ ns) = ap (λ x. n ∷ x) (map-id ns)

    listed : map (λ n. n) (filter (λ n. is_outstanding k n (known k log)) (frames (known k log))) ≡ map (λ r. r.frame) (filter is_row_outstanding (rows k (known k log)))
    listed =
        filter-rows k (known k log) (λ n. is_outstanding k n (known k log)) is_row_outstanding (λ n. n) (λ r. r.frame)
        (λ n begun gone. outstanding-live k n (known k log) (all-heard k (session log)) gone) (λ n begun live. outstanding-reads k n (known k log) begun) (λ n. refl)
