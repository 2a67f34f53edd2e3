-- What is at fault, read of the state.
use Rattle.std.proofs.Common.{◌≡◌, ℕ, Bool, true, false, ◌&&◌, List, [], ◌∷◌, ◌++◌, Some, None, refl, sym, ap, filter, inl, inr, map, if◌then◌else◌}
use Rattle.std.specs.List.{list_all, list_any}
use Rattle.std.proofs.lemmas.Bool.{and_parts, cases_Bool, false≢true}
use Rattle.hal_model.specs.declared.event.HalEvent.{HalEvent}
use Rattle.hal_model.specs.declared.event.HalEvent.TheVariants.{ConfigureOk, RequestBegin, RequestOk, ErrorBuffer, Results}
use Rattle.hal_model.specs.declared.event.HalTarget.{HalTarget}
use Rattle.hal_model.specs.declared.rule.Rule.{Rule}
use Rattle.hal_model.specs.declared.rule.Rule.TheVariants.{ConfigureInFlight, HeldBuffer, RepeatedStream, TooManyBuffers, UnknownStream, AcceptedUnknownStream, NoMaxBuffers, FailedWithFrames, NotAtDevice, BufferStatus, BufferOrder, FailedBufferOrder, GoodAfterError, AcquireFence, ReleaseFence, ErrorTwice, ErrorBesideRequestError, ErrorForGoodBuffer, ErrorUnknownStream, FlushLeft, CloseLeft, FailedWithoutNotice, NoShutter}
use Rattle.hal_model.specs.Callbacks.{astray, is_disorderly, is_overtaken, is_some_listed, is_wrongly_fenced, is_wrongly_filled}
use Rattle.hal_model.specs.Device.{is_left_by_flush}
use Rattle.hal_model.specs.Framework.{is_held_target, is_in_flight, is_too_many, is_unknown_to}
use Rattle.hal_model.specs.Points.{is_silent, is_unlit}
use Rattle.hal_model.specs.declared.rule.Fault.{Fault}
use Rattle.hal_model.specs.Rules.{all_unannounced, at, at_buffers, at_frames, at_targets}
use Rattle.hal_model.specs.Words.{frames, is_begun, is_in_call, is_live, is_outstanding, is_unannounced_at, streams, targets_of}
use Rattle.hal_rows.specs.Judged.{at_rows, at_target_rows, is_held_target_at, is_row_disorderly, is_row_in_flight, is_row_left_by_flush, is_row_overtaken, is_row_silent, is_row_unlit, is_row_wrongly_fenced, is_row_wrongly_filled, is_target_unknown_in, is_too_many_at, of_row, row_astray, row_silences}
use Rattle.hal_rows.specs.Laws.{FaultsRead, IsHeard}
use Rattle.hal_rows.specs.declared.row.Row.{Row}
use Rattle.hal_rows.specs.declared.row.TargetRow.{TargetRow}
use Rattle.hal_rows.specs.Row.{is_row_outstanding, is_row_unannounced_at, row_of, rows, target_row}
use Rattle.hal_rows.specs.State.{hal_state}
use Rattle.hal_rows.proofs.Called.{held-target, too-many}
use Rattle.hal_rows.proofs.Found.{filter-rows, row-found}
use Rattle.hal_rows.proofs.Noted.{noticed}
use Rattle.hal_rows.proofs.Rows.{frames-begun}
use Rattle.hal_rows.proofs.Spoken.{astray-reads, disorderly, overtaken, wrongly-fenced, wrongly-filled}
use Rattle.hal_rows.proofs.Stays.{called-live}
use Rattle.hal_rows.proofs.Words.{in-flight-gone, in-flight-reads, left-gone, left-reads, outstanding-live, outstanding-reads, silent-gone, silent-reads, unlit-gone, unlit-reads}
use Rattle.basic_lemmas.proofs.Lists.{filter-agree}

-- of the targets those that pass, and of their rows
target-faults : (n : ℕ) (past : List HalEvent) (p : HalTarget → Bool) (q : TargetRow → Bool) (ts : List HalTarget) → ((t : HalTarget) → p t ≡ q (target_row n past t)) → at_targets n (filter p ts) ≡ at_target_rows n (filter q (map (target_row n past) ts))
target-faults n past p q [] same = refl
target-faults n past p q (t ∷ ts) same = by (p t) (q (target_row n past t)) (same t) (target-faults n past p q ts same)
  where
    by : (a b : Bool) → a ≡ b → at_targets n (filter p ts) ≡ at_target_rows n (filter q (map (target_row n past) ts)) → at_targets n (if a then t ∷ filter p ts else filter p ts) ≡ at_target_rows n (if b then target_row n past t ∷ filter q (map (target_row n past) ts) else filter q (map (target_row n past) ts))
    by true true h ih = ap (λ x. at n (Some t.stream) ∷ x) ih
    by false false h ih = ih
    by true false h ih = absurd (false≢true (sym h))
    by false true h ih = absurd (false≢true h)

-- of a live request what its row says
pub of-row : {T : Type 0} (k n : ℕ) (past : List HalEvent) (xs : List T) (f : Row → List T) → is_live k n past ≡ true → xs ≡ f (row_of k past n) → xs ≡ of_row f n (hal_state k past)
of-row k n past xs f live same = rw (row-found k n past live) same

silences : (k : ℕ) (e : HalEvent) (past : List HalEvent) → IsHeard k past → all_unannounced past (filter (is_silent k e past) (frames past)) ≡ row_silences (filter (is_row_silent e) (rows k past))
silences k e past heard = over (frames past) (frames-begun past)
  where
    one : (n : ℕ) → at_targets n (filter (is_unannounced_at n past) (targets_of n past)) ≡ at_target_rows n (filter (is_row_unannounced_at (row_of k past n)) (map (target_row n past) (targets_of n past)))
    one n = target-faults n past (is_unannounced_at n past) (is_row_unannounced_at (row_of k past n)) (targets_of n past) (λ t. rw (noticed n t.stream past) refl)

    both : (a b x y : List Fault) → a ≡ x → b ≡ y → (a ++ b) ≡ (x ++ y)
    both a b x y h i = rw (h, i) refl

    over : (ns : List ℕ) → list_all (λ n. is_begun n past) ns ≡ true → all_unannounced past (filter (is_silent k e past) ns) ≡ row_silences (filter (is_row_silent e) (map (row_of k past) (filter (λ n. is_live k n past) ns)))
    over [] all = refl
    over (n ∷ ns) all =
        let parts = and_parts (is_begun n past) (list_all (λ m. is_begun m past) ns) all in
        let ih = over ns parts.1 in
        elim (cases_Bool (is_live k n past)) [
          | inl live ↦ rw (live, silent-reads k e past n parts.0 live) (choose (is_row_silent e (row_of k past n)) ih)
          | inr gone ↦ rw (gone, silent-gone k e past heard n parts.0 gone) ih
        ]
      where
        choose : (c : Bool) → all_unannounced past (filter (is_silent k e past) ns) ≡ row_silences (filter (is_row_silent e) (map (row_of k past) (filter (λ n. is_live k n past) ns))) → all_unannounced past (if c then n ∷ filter (is_silent k e past) ns else filter (is_silent k e past) ns) ≡ row_silences (if c then row_of k past n ∷ filter (is_row_silent e) (map (row_of k past) (filter (λ n. is_live k n past) ns)) else filter (is_row_silent e) (map (row_of k past) (filter (λ n. is_live k n past) ns)))
        choose true ih = both (at_targets n (filter (is_unannounced_at n past) (targets_of n past))) _ _ _ (one n) ih
        choose false ih = ih

outstanding-faults : (k : ℕ) (past : List HalEvent) → IsHeard k past → at_frames (filter (λ n. is_outstanding k n past) (frames past)) ≡ at_rows (filter is_row_outstanding (rows k past))
outstanding-faults k past heard =
    filter-rows k past (λ n. is_outstanding k n past) is_row_outstanding (λ n. at n None) (λ r. at r.frame None)
    (λ n begun gone. outstanding-live k n past heard gone) (λ n begun live. outstanding-reads k n past begun) (λ n. refl)

first : (a b : Bool) → (a && b) ≡ true → a ≡ true
first a b h = (and_parts a b h).0

pub faults_read : (k : ℕ) (rule : Rule) (e : HalEvent) (past : List HalEvent) → FaultsRead k rule e past
faults_read k ConfigureInFlight e past heard h = filter-rows k past (is_in_flight k past) is_row_in_flight (λ n. at n None) (λ r. at r.frame None) (in-flight-gone k past heard) (in-flight-reads k past) (λ n. refl)
faults_read k HeldBuffer (RequestBegin n same ts a b) past heard h = ap (at_targets n) (filter-agree (is_held_target k ts past) (is_held_target_at ts (hal_state k past)) ts (held-target k ts past))
faults_read k HeldBuffer _ past heard h = absurd (false≢true h)
faults_read k RepeatedStream (RequestBegin n same ts a b) past heard h = refl
faults_read k RepeatedStream _ past heard h = absurd (false≢true h)
faults_read k TooManyBuffers (RequestBegin n same ts a b) past heard h = ap (at_targets n) (filter-agree (is_too_many k ts past) (is_too_many_at ts (hal_state k past)) ts (too-many k ts past))
faults_read k TooManyBuffers _ past heard h = absurd (false≢true h)
faults_read k UnknownStream (RequestBegin n same ts a b) past heard h = refl
faults_read k UnknownStream _ past heard h = absurd (false≢true h)
faults_read k AcceptedUnknownStream (RequestOk n) past heard h =
    of-row k n past (at_targets n (filter (is_unknown_to past) (targets_of n past))) (λ r. at_target_rows n (filter (is_target_unknown_in (streams past)) r.targets)) (called-live k n past (first (is_in_call n past) (list_any (is_unknown_to past) (targets_of n past)) h))
    (target-faults n past (is_unknown_to past) (is_target_unknown_in (streams past)) (targets_of n past) (λ t. refl))
faults_read k AcceptedUnknownStream _ past heard h = absurd (false≢true h)
faults_read k NoMaxBuffers (ConfigureOk ms) past heard h = refl
faults_read k NoMaxBuffers _ past heard h = absurd (false≢true h)
faults_read k FailedWithFrames e past heard h = outstanding-faults k past heard
faults_read k NotAtDevice (Results n j pack buffers input) past heard h =
    of-row k n past (map (at n) (astray n past [] buffers)) (λ r. map (at n) (row_astray r [] buffers)) (first (is_live k n past) (is_some_listed (astray n past [] buffers)) h)
    (ap (map (at n)) (astray-reads k n past [] buffers))
faults_read k NotAtDevice _ past heard h = absurd (false≢true h)
faults_read k BufferStatus (Results n j pack buffers input) past heard h = refl
faults_read k BufferStatus _ past heard h = absurd (false≢true h)
faults_read k BufferOrder (Results n j pack buffers input) past heard h =
    let live = first (is_live k n past) (list_any (is_overtaken n past) buffers) h in
    of-row k n past (at_buffers n (filter (is_overtaken n past) buffers)) (λ r. at_buffers n (filter (is_row_overtaken (hal_state k past) r) buffers)) live
    (ap (at_buffers n) (filter-agree (is_overtaken n past) (is_row_overtaken (hal_state k past) (row_of k past n)) buffers (overtaken k n past heard live)))
faults_read k BufferOrder _ past heard h = absurd (false≢true h)
faults_read k FailedBufferOrder (Results n j pack buffers input) past heard h =
    let live = first (is_live k n past) (list_any (is_disorderly n past) buffers) h in
    of-row k n past (at_buffers n (filter (is_disorderly n past) buffers)) (λ r. at_buffers n (filter (is_row_disorderly (hal_state k past) r) buffers)) live
    (ap (at_buffers n) (filter-agree (is_disorderly n past) (is_row_disorderly (hal_state k past) (row_of k past n)) buffers (disorderly k n past heard live)))
faults_read k FailedBufferOrder _ past heard h = absurd (false≢true h)
faults_read k GoodAfterError (Results n j pack buffers input) past heard h =
    of-row k n past (at_buffers n (filter (is_wrongly_filled n past) buffers)) (λ r. at_buffers n (filter (is_row_wrongly_filled r) buffers)) (first (is_live k n past) (list_any (is_wrongly_filled n past) buffers) h)
    (ap (at_buffers n) (filter-agree (is_wrongly_filled n past) (is_row_wrongly_filled (row_of k past n)) buffers (wrongly-filled k n past)))
faults_read k GoodAfterError _ past heard h = absurd (false≢true h)
faults_read k AcquireFence (Results n j pack buffers input) past heard h = refl
faults_read k AcquireFence _ past heard h = absurd (false≢true h)
faults_read k ReleaseFence (Results n j pack buffers input) past heard h =
    of-row k n past (at_buffers n (filter (is_wrongly_fenced n past) buffers)) (λ r. at_buffers n (filter (is_row_wrongly_fenced r) buffers)) (first (is_live k n past) (list_any (is_wrongly_fenced n past) buffers) h)
    (ap (at_buffers n) (filter-agree (is_wrongly_fenced n past) (is_row_wrongly_fenced (row_of k past n)) buffers (wrongly-fenced k n past)))
faults_read k ReleaseFence _ past heard h = absurd (false≢true h)
faults_read k ErrorTwice (ErrorBuffer n x) past heard h = refl
faults_read k ErrorTwice _ past heard h = refl
faults_read k ErrorBesideRequestError (ErrorBuffer n x) past heard h = refl
faults_read k ErrorBesideRequestError _ past heard h = refl
faults_read k ErrorForGoodBuffer (ErrorBuffer n x) past heard h = refl
faults_read k ErrorForGoodBuffer _ past heard h = absurd (false≢true h)
faults_read k ErrorUnknownStream (ErrorBuffer n x) past heard h = refl
faults_read k ErrorUnknownStream _ past heard h = absurd (false≢true h)
faults_read k FlushLeft e past heard h = filter-rows k past (is_left_by_flush k past) is_row_left_by_flush (λ n. at n None) (λ r. at r.frame None) (left-gone k past heard) (left-reads k past) (λ n. refl)
faults_read k CloseLeft e past heard h = outstanding-faults k past heard
faults_read k FailedWithoutNotice e past heard h = silences k e past heard
faults_read k NoShutter e past heard h = filter-rows k past (is_unlit k e past) (is_row_unlit e) (λ n. at n None) (λ r. at r.frame None) (unlit-gone k e past heard) (unlit-reads k e past) (λ n. refl)
faults_read k _ e past heard h = refl
