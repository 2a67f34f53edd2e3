-- A move that can't end a frame leaves every row standing.
use Rattle.std.proofs.Common.{◌≡◌, ℕ, ◌==◌, Bool, true, false, ◌&&◌, not, List, [], ◌∷◌, ◌++◌, Option, Some, None, refl, sym, ap, ◌∙◌, inl, inr, filter, map, reverse}
use Rattle.std.specs.List.{list_all}
use Rattle.std.proofs.lemmas.Bool.{and_from, and_parts, cases_Bool, false≢true}
use Rattle.run_rows.proofs.General.{filter-all}
use Rattle.cam_types.specs.Rows as view
use Rattle.cam_types.specs.declared.four.Four.{Four}
use Rattle.cam_types.specs.declared.item.Settings.{Settings}
use Rattle.cam_types.specs.declared.number.FrameNo.{FrameNo}
use Rattle.cam_types.specs.declared.number.StreamIx.{StreamIx}
use Rattle.cam_types.specs.declared.row.RowView.{RowView}
use Rattle.cam_types.specs.declared.row.TargetState.{TargetState}
use Rattle.cam_types.specs.declared.row.TargetState.TheVariants.{Waiting, Out, Filled as IsFilled, ReturnedEarly, EarlyFilled, ReturnedOk, ReturnedFailed}
use Rattle.cam_types.specs.declared.row.TargetView.{TargetView}
use Rattle.cam_types.specs.declared.script.Script.{Script}
use Rattle.trace_model.specs.declared.entry.Entry.{Entry}
use Rattle.trace_model.specs.declared.entry.Entry.TheVariants.{Begin, Send as SendEntry, Shutter as ShutterEntry, Partial as PartialEntry, Filled, Failed, ErrorRequest, ErrorResult, ErrorBuffer, ErrorDevice, Early as EarlyEntry, Late as LateEntry}
use Rattle.trace_model.specs.Entry.{is_stop_word}
use Rattle.trace_model.specs.Frames.{frames, is_sent}
use Rattle.trace_model.specs.Legal.{IsLegal}
use Rattle.trace_model.specs.Open.{early_fences, is_open}
use Rattle.trace_model.specs.Queue.{next}
use Rattle.run_model.specs.declared.step.Move.{Move}
use Rattle.run_model.specs.declared.step.StepName.{StepName}
use Rattle.run_model.specs.declared.step.StepName.TheVariants.{SensorDone, TakeFill, FillDone, Finish}
use Rattle.run_model.specs.History.{trace_of}
use Rattle.run_model.specs.Jobs.{is_filled_in}
use Rattle.run_model.specs.Ready.{finish_due}
use Rattle.run_model.specs.Rows.{row_of, rows}
use Rattle.run_model.specs.Run.{IsRun}
use Rattle.device_rows.specs.Marks.{as_announced, if_of_stream, in_state, marked, with_target}
use Rattle.device_rows.specs.declared.mark.Mark.TheVariants.{Announced, Stopped}
use Rattle.device_rows.specs.Rows.{exposed, fill_begun, fill_ended, filled_after, filled_from, gone_early, sensor_home, target_at, with_row}
use Rattle.run_model.proofs.Legal.{adds, runs_legally, where-entry}
use Rattle.state_facts.specs.Turns.{settings_next}
use Rattle.run_rows.specs.Changes.{after, after_entry, after_given, after_step, fresh_row, may_end}
use Rattle.run_rows.proofs.Changes.{at_frame}
use Rattle.run_rows.proofs.Frames.{sent-in-order}
use Rattle.run_rows.proofs.Jobs.{finish-shape}
use Rattle.run_rows.proofs.Moved.{by-some, changed_is}
use Rattle.run_rows.proofs.Noted.{row-open}

-- ---- each row is open

pub all-open : (script : Script) (h : List Move) → IsLegal script (trace_of h) → list_all view.is_open (rows script h) ≡ true
all-open script h legal = by-frames (reverse (frames (trace_of h))) (sent-in-order h)
  where
    by-frames : (xs : List ℕ) → list_all (λ n. is_sent n (trace_of h)) xs ≡ true → list_all view.is_open (map (row_of script h) (filter (λ n. is_open n (trace_of h)) xs)) ≡ true
    by-frames [] all = refl
    by-frames (x ∷ xs) all =
        let parts = and_parts (is_sent x (trace_of h)) (list_all (λ n. is_sent n (trace_of h)) xs) all in
        elim (cases_Bool (is_open x (trace_of h))) [
          | inl yes' ↦ (let now : view.is_open (row_of script h x) ≡ true = sym (row-open script h x legal parts.0) ∙ yes' in rw (yes', now) (by-frames xs parts.1))
          | inr no' ↦ rw no' (by-frames xs parts.1)
        ]

-- ---- a change that leaves an open row open

abbrev pub Keeps : (RowView → RowView) → Type 0
Keeps c = (row : RowView) → view.is_open row ≡ true → view.is_open (c row) ≡ true

all-at : (n : ℕ) (c : RowView → RowView) (rows : List RowView) → Keeps c → list_all view.is_open rows ≡ true → list_all view.is_open (with_row n c rows) ≡ true
all-at n c [] keeps all = refl
all-at n c (row ∷ rows) keeps all =
    let parts = and_parts (view.is_open row) (list_all view.is_open rows) all in
    let one : view.is_open (at_frame n c row) ≡ true = elim (cases_Bool (row.frame.0 == n)) [ inl here ↦ rw here (keeps row parts.0) | inr other ↦ rw other parts.0 ] in
    and_from (view.is_open (at_frame n c row)) (list_all view.is_open (with_row n c rows)) one (all-at n c rows keeps parts.1)

all-same : (c : RowView → RowView) (rows : List RowView) → Keeps c → list_all view.is_open rows ≡ true → list_all view.is_open (map c rows) ≡ true
all-same c [] keeps all = refl
all-same c (row ∷ rows) keeps all =
    let parts = and_parts (view.is_open row) (list_all view.is_open rows) all in
    and_from (view.is_open (c row)) (list_all view.is_open (map c rows)) (keeps row parts.0) (all-same c rows keeps parts.1)

pub all-with : (row : RowView) (rows : List RowView) → view.is_open row ≡ true → list_all view.is_open rows ≡ true → list_all view.is_open (rows ++ row ∷ []) ≡ true
all-with row [] open_ all = rw open_ refl
all-with row (x ∷ rows) open_ all =
    let parts = and_parts (view.is_open x) (list_all view.is_open rows) all in
    and_from (view.is_open x) (list_all view.is_open (rows ++ row ∷ [])) parts.0 (all-with row rows open_ parts.1)

-- where a change settles no target, what was open stays open
abbrev pub Unsettles : (TargetView → TargetView) → Type 0
Unsettles c = (t : TargetView) → view.is_settled (c t).state ≡ true → view.is_settled t.state ≡ true

place-before : (s : ℕ) (c : TargetView → TargetView) (o : Option TargetView) → Unsettles c → view.is_settled_at (if_of_stream s c o) ≡ true → view.is_settled_at o ≡ true
place-before s c None un h = refl
place-before s c (Some t) un h = elim (cases_Bool (t.stream.0 == s)) [
  | inl here ↦ (let h' = rw here at h in un t h')
  | inr other ↦ rw other at h
]

settled-before : (s : ℕ) (c : TargetView → TargetView) (ts : Four TargetView) → Unsettles c → view.are_settled (with_target s c ts) ≡ true → view.are_settled ts ≡ true
settled-before s c ts un h =
    let at : Option TargetView → Bool = λ o. view.is_settled_at (if_of_stream s c o) in
    let a = and_parts (at ts.a) (at ts.b && (at ts.c && at ts.d)) h in
    let b = and_parts (at ts.b) (at ts.c && at ts.d) a.1 in
    let d = and_parts (at ts.c) (at ts.d) b.1 in
    rw (place-before s c ts.a un a.0, place-before s c ts.b un b.0, place-before s c ts.c un d.0, place-before s c ts.d un d.1) refl

open-by : (awaits settled settled' : Bool) → (settled' ≡ true → settled ≡ true) → not (not awaits && settled) ≡ true → not (not awaits && settled') ≡ true
open-by true a b h k = refl
open-by false a false h k = refl
open-by false a true h k = absurd (false≢true (sym (ap not (h refl)) ∙ k))

keeps-target : (s : ℕ) (c : TargetView → TargetView) → Unsettles c → Keeps (λ row. record row { targets = with_target s c row.targets })
keeps-target s c un row open_ = open-by (view.awaits_metadata row) (view.are_settled row.targets) (view.are_settled (with_target s c row.targets)) (settled-before s c row.targets un) open_

unsettled : (state : TargetState) → view.is_settled state ≡ false → Unsettles (in_state state)
unsettled state none t h = absurd (false≢true (sym none ∙ h))

filled-unsettled : (o : Option TargetView) → view.is_settled (filled_after o) ≡ false
filled-unsettled None = refl
filled-unsettled (Some t) = by t.state
  where
    by : (state : TargetState) → view.is_settled (filled_from state) ≡ false
    by Waiting = refl
    by Out = refl
    by IsFilled = refl
    by ReturnedEarly = refl
    by EarlyFilled = refl
    by ReturnedOk = refl
    by ReturnedFailed = refl

-- ---- so each move that can't end a frame leaves all open

entry-open : (settings : Settings) (e : Entry) (rows : List RowView) → may_end (Some e) ≡ false → list_all view.is_open rows ≡ true → list_all view.is_open (after_entry settings e rows) ≡ true
entry-open settings (SendEntry n r i same targets) rows on all = all-with (fresh_row settings n r targets) rows refl all
entry-open settings (ShutterEntry n time) rows on all = all-at n.0 (exposed time) rows (λ row open_. open_) all
entry-open settings (EarlyEntry n s b d) rows on all = all-at n.0 (gone_early s) rows (keeps-target s.0 (in_state ReturnedEarly) (unsettled ReturnedEarly refl)) all
entry-open settings (ErrorBuffer n s) rows on all = all-at n.0 (marked (Announced s)) rows (keeps-target s.0 as_announced (λ t h. h)) all
entry-open settings ErrorDevice rows on all = all-same (marked Stopped) rows (λ row open_. open_) all
entry-open settings (Begin word) rows on all = elim (cases_Bool (is_stop_word word)) [
  | inl stop ↦ rw stop (all-same (marked Stopped) rows (λ row open_. open_) all)
  | inr goes ↦ rw goes all
]
entry-open settings (PartialEntry n k part) rows on all = absurd (false≢true (sym on))
entry-open settings (Filled n s b f d) rows on all = absurd (false≢true (sym on))
entry-open settings (Failed n s b f) rows on all = absurd (false≢true (sym on))
entry-open settings (ErrorRequest n) rows on all = absurd (false≢true (sym on))
entry-open settings (ErrorResult n) rows on all = absurd (false≢true (sym on))
entry-open settings (LateEntry d x) rows on all = absurd (false≢true (sym on))
entry-open settings _ rows on all = all

given-open : (settings : Settings) (o : Option Entry) (rows : List RowView) → may_end o ≡ false → list_all view.is_open rows ≡ true → list_all view.is_open (after_given settings o rows) ≡ true
given-open settings None rows on all = all
given-open settings (Some e) rows on all = entry-open settings e rows on all

-- the entry of the step may end a frame
finish-ends : (script : Script) (h : List Move) (n : FrameNo) (s : StreamIx) (o : Option Entry) → IsRun script (record { step = Finish n s; entry = o } ∷ h) → may_end o ≡ true
finish-ends script h n s o run =
    let a = adds (Finish n s) _ (record { step = Finish n s; entry = o }) run.0 in
    let both = where-entry (is_filled_in h n.0 s.0) (finish_due script (trace_of h) n.0 s.0) a.0 a.1 in
    by-some (λ x. may_end x ≡ true) o a.0 a.2 (finish-shape (λ e. may_end (Some e) ≡ true) script h n.0 s.0 (early_fences n.0 s.0 (trace_of h)) a.0 both.0 refl both.1 (λ d x is. refl))

each-open : (script : Script) (h : List Move) (settings : Settings) (step : StepName) (o : Option Entry) → IsRun script (record { step = step; entry = o } ∷ h) → may_end o ≡ false → list_all view.is_open (rows script h) ≡ true → list_all view.is_open (after_step settings step o (rows script h)) ≡ true
each-open script h settings (SensorDone n) o run on all = all-at n.0 sensor_home (rows script h) (λ row open_. open_) all
each-open script h settings (TakeFill n s) o run on all = all-at n.0 (fill_begun s) (rows script h) (keeps-target s.0 (in_state Out) (unsettled Out refl)) all
each-open script h settings (FillDone n s) o run on all =
    all-at n.0 (fill_ended s) (rows script h) (λ row open_. let state = filled_after (target_at s.0 row) in keeps-target s.0 (in_state state) (unsettled state (filled-unsettled (target_at s.0 row))) row open_) all
each-open script h settings (Finish n s) o run on all = absurd (false≢true (sym on ∙ finish-ends script h n s o run))
each-open script h settings _ o run on all = given-open settings o (rows script h) on all

pub whole_is : (script : Script) (m : Move) (h : List Move) → IsRun script (m ∷ h) → may_end m.entry ≡ false → rows script (m ∷ h) ≡ after (settings_next (next script (trace_of h))) m (rows script h)
whole_is script m h run on =
    let settings = settings_next (next script (trace_of h)) in
    changed_is script m h run ∙ filter-all view.is_open (after settings m (rows script h)) (each-open script h settings m.step m.entry run on (all-open script h (runs_legally script h run.1)))
