-- What is due of a frame's buffers is read from the rows.
use Rattle.std.proofs.Common.{◌≡◌, ℕ, ◌==◌, Bool, true, false, ◌&&◌, ◌||◌, not, List, [], ◌∷◌, Option, Some, None, refl, sym, ap, ◌∙◌, inl, inr, is_some, if◌then◌else◌}
use Rattle.std.specs.List.{list_all, list_any}
use Rattle.std.specs.Option.{option_and_then, option_map}
use Rattle.std.proofs.lemmas.Bool.{and_parts, cases_Bool, eqb-true, false≢true}
use Rattle.cam_types.specs.Four.{four_list}
use Rattle.cam_types.specs.Rows.{is_returned as is_back}
use Rattle.cam_types.specs.declared.number.FenceNo.{FenceNo}
use Rattle.cam_types.specs.declared.row.TargetView.{TargetView}
use Rattle.cam_types.specs.declared.script.Script.{Script}
use Rattle.trace_model.specs.declared.entry.Entry.{Entry}
use Rattle.trace_model.specs.declared.entry.Entry.TheVariants.{Failed}
use Rattle.trace_model.specs.declared.entry.Sent.{Sent}
use Rattle.trace_model.specs.Errors.{failed_due, failed_of}
use Rattle.trace_model.specs.Fence.{is_passed, is_signalled}
use Rattle.trace_model.specs.Filled.{early_due, early_of, filled_due, filled_of, is_sound, lets_pass, may_deliver as may_come}
use Rattle.trace_model.specs.Frames.{each_earlier, has_error_request, has_shutter, has_target, is_sent, shutter_time, target_of, targets_of}
use Rattle.trace_model.specs.Numbers.{next_early}
use Rattle.trace_model.specs.Open.{has_error_buffer, is_open, is_returned, is_settled}
use Rattle.trace_model.specs.Picture.{digest_of}
use Rattle.trace_model.specs.Place.{is_at_device_by}
use Rattle.run_model.specs.declared.step.Move.{Move}
use Rattle.run_model.specs.History.{trace_of}
use Rattle.run_model.specs.Jobs.{is_fill_out, is_filled_in, is_readout_home, is_sensor_out, is_taken_in}
use Rattle.run_model.specs.Ready.{may_take_fill, target_is_passed, where_entry}
use Rattle.run_model.specs.Rows.{row_of, rows, target_view}
use Rattle.run_model.specs.Run.{IsRun}
use Rattle.device_rows.specs.Order.{each_below, holds_back, is_held_for}
use Rattle.device_rows.specs.Ready.{is_delivery_ready, is_early_ready, is_failed_return_ready, is_fill_ready, may_deliver, may_fill, may_go_early, may_return_failed, passes_at, target_passes}
use Rattle.device_rows.specs.Ready as ready
use Rattle.device_rows.specs.Rows.{target_at, target_in}
use Rattle.basic_lemmas.proofs.Lists.{any-mapped, any-agree}
use Rattle.run_model.proofs.Legal.{runs_legally}
use Rattle.trace_laws.proofs.Out.{out-reads}
use Rattle.run_model.proofs.Unsent.{filled-taken}
use Rattle.trace_laws.proofs.Done.{closed-is}
use Rattle.trace_laws.proofs.Times.{timed-shutter}
use Rattle.trace_laws.proofs.Once.{settled-returned}
use Rattle.run_rows.specs.Entries.{early_entry, failed_entry, filled_entry}
use Rattle.run_rows.proofs.Fours.{any-four, by-target, row-targets, some_of, view_at}
use Rattle.run_rows.proofs.Frames.{by-row, earlier-is}
use Rattle.run_rows.proofs.Jobs.{taken-passed}
use Rattle.run_rows.proofs.Closed.{early-closed, failed-closed, filled-closed}
use Rattle.run_rows.proofs.States.{place-home, place-out, state-filled, state-out, state-returned, state-waiting}

-- ---- a frame that doesn't hold later buffers back

held-any : (s : ℕ) (o : Option TargetView) → is_held_for s o ≡ some_of (λ t. (t.stream.0 == s) && (not (is_back t.state) && not t.announced)) o
held-any s None = refl
held-any s (Some t) = refl

of-stream : (p : ℕ → Bool) (s : ℕ) (ts : List Sent) → list_any (λ t. (t.stream.0 == s) && p t.stream.0) ts ≡ (list_any (λ t. t.stream.0 == s) ts && p s)
of-stream p s [] = refl
of-stream p s (t ∷ ts) =
    elim (cases_Bool (t.stream.0 == s)) [
      | inl here ↦ (let at = eqb-true t.stream.0 s here in rw (here, at, of-stream p s ts) (again (p s) (list_any (λ u. u.stream.0 == s) ts)))
      | inr other ↦ rw other (of-stream p s ts)
    ]
  where
    again : (a b : Bool) → (a || (b && a)) ≡ a
    again true b = refl
    again false true = refl
    again false false = refl

held-back : (script : Script) (h : List Move) (n s : ℕ) → (is_held_for s (row_of script h n).targets.a || (is_held_for s (row_of script h n).targets.b || (is_held_for s (row_of script h n).targets.c || is_held_for s (row_of script h n).targets.d))) ≡ (has_target n s (trace_of h) && (not (is_returned n s (trace_of h)) && not (has_error_buffer n s (trace_of h))))
held-back script h n s =
    let past = trace_of h in
    let row = row_of script h n in
    let p : TargetView → Bool = λ t. (t.stream.0 == s) && (not (is_back t.state) && not t.announced) in
    let q : ℕ → Bool = λ i. not (is_returned n i past) && not (has_error_buffer n i past) in
    let first : (is_held_for s row.targets.a || (is_held_for s row.targets.b || (is_held_for s row.targets.c || is_held_for s row.targets.d))) ≡ list_any p (four_list row.targets) =
    rw (held-any s row.targets.a, held-any s row.targets.b, held-any s row.targets.c, held-any s row.targets.d) (sym (any-four p row.targets))
    in
    first
    ∙ (ap (λ (ts : List TargetView). list_any p ts) (row-targets script h n)
    ∙ (any-mapped p (target_view h n) (targets_of n past)
    ∙ (any-agree (λ t. p (target_view h n t)) (λ t. (t.stream.0 == s) && q t.stream.0) (targets_of n past) (λ t. ap (λ b. (t.stream.0 == s) && (not b && not (has_error_buffer n t.stream.0 past))) (state-returned h n t.stream.0))
    ∙ of-stream q s (targets_of n past))))

passes-by : (q a r e : Bool) → (not a || (r || (e || q))) ≡ not (not q && (a && (not r && not e)))
passes-by true true true e = refl
passes-by true true false true = refl
passes-by true true false false = refl
passes-by true false r e = refl
passes-by false true true e = refl
passes-by false true false true = refl
passes-by false true false false = refl
passes-by false false r e = refl

row-passes : (script : Script) (h : List Move) (n s : ℕ) → lets_pass (trace_of h) s n ≡ not (holds_back s (row_of script h n))
row-passes script h n s =
    let past = trace_of h in
    passes-by (has_error_request n past) (has_target n s past) (is_returned n s past) (has_error_buffer n s past)
    ∙ ap (λ b. not (not (has_error_request n past) && b)) (sym (held-back script h n s))

-- a closed frame has all its buffers back
closed-back : (past : List Entry) (n s : ℕ) → is_sent n past ≡ true → is_open n past ≡ false → (not (has_target n s past) || is_returned n s past) ≡ true
closed-back past n s sent closed = elim (cases_Bool (has_target n s past)) [
  | inl has ↦ rw (has, settled-returned n s past (one-settled (targets_of n past) (closed-is past n sent closed).1 has)) refl
  | inr none ↦ rw none refl
]
  where
    one-settled : (ts : List Sent) → list_all (λ t. is_settled n t.stream.0 past) ts ≡ true → list_any (λ t. t.stream.0 == s) ts ≡ true → is_settled n s past ≡ true
    one-settled [] all has = absurd (false≢true has)
    one-settled (t ∷ ts) all has =
        let parts = and_parts (is_settled n t.stream.0 past) (list_all (λ u. is_settled n u.stream.0 past) ts) all in
        elim (cases_Bool (t.stream.0 == s)) [
          | inl here ↦ ap (λ (i : ℕ). is_settled n i past) (sym (eqb-true t.stream.0 s here)) ∙ parts.0
          | inr other ↦ (let has' = rw other at has in one-settled ts parts.1 has')
        ]

closed-passes : (past : List Entry) (s n : ℕ) → is_sent n past ≡ true → is_open n past ≡ false → lets_pass past s n ≡ true
closed-passes past s n sent closed = by (not (has_target n s past)) (is_returned n s past) (has_error_buffer n s past || has_error_request n past) (closed-back past n s sent closed)
  where
    by : (a b c : Bool) → (a || b) ≡ true → (a || (b || c)) ≡ true
    by true b c h = refl
    by false true c h = refl
    by false false c h = absurd (false≢true h)

earlier-passes : (script : Script) (h : List Move) (n s : ℕ) → each_earlier n (lets_pass (trace_of h) s) (trace_of h) ≡ each_below n (λ other. not (holds_back s other)) (rows script h)
earlier-passes script h n s =
    earlier-is script h n (lets_pass (trace_of h) s) (λ other. not (holds_back s other)) (λ m sent closed. closed-passes (trace_of h) s m sent closed) (λ m open_. row-passes script h m s)

-- ---- the acquire fence

fence-passed : (past : List Entry) (f : Option FenceNo) → is_passed f past ≡ ready.is_passed (λ i. is_signalled i past) f
fence-passed past None = refl
fence-passed past (Some f) = refl

target-passed : (script : Script) (h : List Move) (n s : ℕ) (t : Sent) → IsRun script h → target_of n s (trace_of h) ≡ Some t → is_taken_in h n s ≡ true → is_passed t.fence (trace_of h) ≡ true
target-passed script h n s t run at taken = sym (ap (λ (o : Option Sent). target_is_passed (trace_of h) o) at) ∙ taken-passed script h n s run taken

-- ---- an entry that is read of a target

-- the entry of a target that passes
abbrev pub entry_of : (TargetView → Entry) → Bool → Option TargetView → Option Entry
entry_of entry test target = where_entry test (option_map entry target)

where-one : (a b c : Bool) (x y : Entry) → (a && b) ≡ c → (c ≡ true → x ≡ y) → where_entry a (if b then Some x else None) ≡ where_entry c (Some y)
where-one true true true x y h k = ap Some (k refl)
where-one true true false x y h k = absurd (false≢true (sym h))
where-one true false true x y h k = absurd (false≢true h)
where-one true false false x y h k = refl
where-one false b true x y h k = absurd (false≢true h)
where-one false b false x y h k = refl

where-none : (a : Bool) → where_entry a None ≡ None
where-none true = refl
where-none false = refl

-- ---- a stage takes a buffer

take-by : (open_ sound back taken home home' passed passed' waiting : Bool) → open_ ≡ true → home ≡ home' → passed ≡ passed' → waiting ≡ (not back && not taken) → ((open_ && (sound && not back)) && ((not taken && home) && passed)) ≡ ((sound && waiting) && (home' && passed'))
take-by open_ sound back taken home home' passed passed' waiting a b c d = rw (a, b, c, d) (by sound back taken home' passed')
  where
    by : (s r t h p : Bool) → ((s && not r) && ((not t && h) && p)) ≡ ((s && (not r && not t)) && (h && p))
    by true true t h p = refl
    by true false true h p = refl
    by true false false h p = refl
    by false r t h p = refl

no-take : (a b c : Bool) → c ≡ false → (a && (b && c)) ≡ false
no-take true true c h = h
no-take true false c h = refl
no-take false b c h = refl

take-open : (script : Script) (h : List Move) (n s : ℕ) → IsRun script h → is_open n (trace_of h) ≡ true → may_take_fill script h n s ≡ passes_at (may_fill script.faults (λ i. is_signalled i (trace_of h)) (row_of script h n)) (target_at s (row_of script h n))
take-open script h n s run open_ =
    let past = trace_of h in
    by-target script h n s (passes_at (may_fill script.faults (λ i. is_signalled i past) (row_of script h n)))
    (λ o. (is_open n past && (is_sound script past n s && not (is_returned n s past))) && ((not (is_taken_in h n s) && is_readout_home h n) && target_is_passed past o))
    (λ at. no-take (is_open n past && (is_sound script past n s && not (is_returned n s past))) (not (is_taken_in h n s) && is_readout_home h n) false refl)
    (λ t at. take-by (is_open n past) (is_sound script past n s) (is_returned n s past) (is_taken_in h n s) (is_readout_home h n) _ (is_passed t.fence past) _ _ open_ (sym (place-home h n)) (fence-passed past t.fence) (state-waiting script h n s run))

pub take_is : (script : Script) (h : List Move) (n s : ℕ) → IsRun script h → may_take_fill script h n s ≡ is_fill_ready script.faults (λ i. is_signalled i (trace_of h)) (rows script h) n s
take_is script h n s run =
    by-row script h n (target_passes (may_fill script.faults (λ i. is_signalled i (trace_of h))) s) (may_take_fill script h n s)
    (λ open_. take-open script h n s run open_)
    (λ closed. rw closed refl)

-- ---- a buffer comes back with its picture, or early

deliver-by : (job back out shot shot' sound passed earlier earlier' state : Bool) → (job ≡ true → passed ≡ true) → out ≡ not back → shot ≡ shot' → earlier ≡ earlier' → state ≡ (not back && job) → (job && ((out && (shot && sound)) && (passed && earlier))) ≡ (state && ((sound && shot') && earlier'))
deliver-by true back out shot shot' sound passed earlier earlier' state p a b c d = rw (p refl, a, b, c, d) (by back shot' sound earlier')
  where
    by : (r h s e : Bool) → ((not r && (h && s)) && e) ≡ ((not r && true) && ((s && h) && e))
    by true h s e = refl
    by false true true e = refl
    by false true false e = refl
    by false false true e = refl
    by false false false e = refl
deliver-by false back out shot shot' sound passed earlier earlier' state p a b c d = rw d (by back ((sound && shot') && earlier'))
  where
    by : (r x : Bool) → false ≡ ((not r && false) && x)
    by true x = refl
    by false x = refl

-- the buffer may come back by the definitions where it may by the row, in a state that a job stands for
may-return-by : (script : Script) (h : List Move) (n s : ℕ) (t : Sent) (job state : Bool) → IsRun script h → target_of n s (trace_of h) ≡ Some t → (job ≡ true → is_taken_in h n s ≡ true) → state ≡ (not (is_returned n s (trace_of h)) && job) → (job && may_come script (trace_of h) n s t) ≡ (state && ready.may_return script.faults (rows script h) (row_of script h n) (view_at h n s t))
may-return-by script h n s t job state run at taken is =
    let past = trace_of h in
    deliver-by job (is_returned n s past) (is_at_device_by n s t.buffer.0 past) (has_shutter n past) (is_some (shutter_time n past)) (is_sound script past n s) (is_passed t.fence past) (each_earlier n (lets_pass past s) past) _ state
    (λ k. target-passed script h n s t run at (taken k)) (out-reads script past n s t (runs_legally script h run) at) (timed-shutter n past) (earlier-passes script h n s) is

deliver-open : (script : Script) (h : List Move) (n s : ℕ) → IsRun script h → where_entry (is_filled_in h n s) (filled_of script (trace_of h) n s (target_of n s (trace_of h))) ≡ entry_of (filled_entry (digest_of script (trace_of h) n s) n s) (passes_at (may_deliver script.faults (rows script h) (row_of script h n)) (target_at s (row_of script h n))) (target_at s (row_of script h n))
deliver-open script h n s run =
    let past = trace_of h in
    by-target script h n s (λ o. entry_of (filled_entry (digest_of script past n s) n s) (passes_at (may_deliver script.faults (rows script h) (row_of script h n)) o) o)
    (λ o. where_entry (is_filled_in h n s) (filled_of script past n s o))
    (λ at. where-none (is_filled_in h n s))
    (λ t at. where-one (is_filled_in h n s) (may_come script past n s t) _ _ _ (may-return-by script h n s t (is_filled_in h n s) _ run at (filled-taken script h n s run) (state-filled h n s)) (λ k. refl))

pub deliver_is : (script : Script) (h : List Move) (n s : ℕ) → IsRun script h → where_entry (is_filled_in h n s) (filled_due script (trace_of h) n s) ≡ entry_of (filled_entry (digest_of script (trace_of h) n s) n s) (is_delivery_ready script.faults (rows script h) n s) (target_in n s (rows script h))
deliver_is script h n s run =
    by-row script h n (λ row. entry_of (filled_entry (digest_of script (trace_of h) n s) n s) (target_passes (may_deliver script.faults (rows script h)) s row) (option_and_then (target_at s) row)) (where_entry (is_filled_in h n s) (filled_due script (trace_of h) n s))
    (λ open_. deliver-open script h n s run)
    (λ closed. ap (λ (o : Option Entry). where_entry (is_filled_in h n s) o) (filled-closed script (trace_of h) n s (runs_legally script h run) closed) ∙ where-none (is_filled_in h n s))

early-test : (job early may state : Bool) → (job && may) ≡ state → (job && (early && may)) ≡ (early && state)
early-test true true may state h = h
early-test true false may state h = refl
early-test false true may state h = h
early-test false false may state h = refl

early-open : (script : Script) (h : List Move) (n s : ℕ) → IsRun script h → where_entry (is_fill_out h n s) (early_of script (trace_of h) n s (target_of n s (trace_of h))) ≡ entry_of (early_entry (next_early (trace_of h)) n s) (script.early && passes_at (may_go_early script.faults (rows script h) (row_of script h n)) (target_at s (row_of script h n))) (target_at s (row_of script h n))
early-open script h n s run =
    let past = trace_of h in
    by-target script h n s (λ o. entry_of (early_entry (next_early past) n s) (script.early && passes_at (may_go_early script.faults (rows script h) (row_of script h n)) o) o)
    (λ o. where_entry (is_fill_out h n s) (early_of script past n s o))
    (λ at. where-none (is_fill_out h n s) ∙ sym (where-none (script.early && false)))
    (λ t at. where-one (is_fill_out h n s) (script.early && may_come script past n s t) _ _ _ (early-test (is_fill_out h n s) script.early (may_come script past n s t) _ (may-return-by script h n s t (is_fill_out h n s) _ run at (λ k. (and_parts (is_taken_in h n s) (not (is_filled_in h n s)) k).0) (state-out h n s))) (λ k. refl))

pub early_return_is : (script : Script) (h : List Move) (n s : ℕ) → IsRun script h → where_entry (is_fill_out h n s) (early_due script (trace_of h) n s) ≡ entry_of (early_entry (next_early (trace_of h)) n s) (script.early && is_early_ready script.faults (rows script h) n s) (target_in n s (rows script h))
early_return_is script h n s run =
    by-row script h n (λ row. entry_of (early_entry (next_early (trace_of h)) n s) (script.early && target_passes (may_go_early script.faults (rows script h)) s row) (option_and_then (target_at s) row)) (where_entry (is_fill_out h n s) (early_due script (trace_of h) n s))
    (λ open_. early-open script h n s run)
    (λ closed. ap (λ (o : Option Entry). where_entry (is_fill_out h n s) o) (early-closed script (trace_of h) n s (runs_legally script h run) closed) ∙ (where-none (is_fill_out h n s) ∙ sym (where-none (script.early && false))))

-- ---- a buffer comes back in error

fail-by : (sensor sensor' fill back taken filled out fails waiting is_filled : Bool) → fill ≡ (taken && not filled) → (filled ≡ true → taken ≡ true) → sensor ≡ sensor' → out ≡ not back → waiting ≡ (not back && not taken) → is_filled ≡ (not back && filled) → ((not sensor && not fill) && (out && fails)) ≡ (fails && (not sensor' && (waiting || is_filled)))
fail-by sensor sensor' fill back taken filled out fails waiting is_filled a b c d e f = rw (a, c, d, e, f) (by sensor' back taken filled fails b)
  where
    by : (s r t l x : Bool) → (l ≡ true → t ≡ true) → ((not s && not (t && not l)) && (not r && x)) ≡ (x && (not s && ((not r && not t) || (not r && l))))
    by s r false true x h = absurd (false≢true (h refl))
    by true r true l true h = refl
    by true r true l false h = refl
    by true r false false true h = refl
    by true r false false false h = refl
    by false true true true true h = refl
    by false true true true false h = refl
    by false true true false true h = refl
    by false true true false false h = refl
    by false true false false true h = refl
    by false true false false false h = refl
    by false false true true true h = refl
    by false false true true false h = refl
    by false false true false true h = refl
    by false false true false false h = refl
    by false false false false true h = refl
    by false false false false false h = refl

fence-by : (passed passed' waiting back taken filled : Bool) (f : Option FenceNo) → passed ≡ passed' → waiting ≡ (not back && not taken) → (taken ≡ true → passed ≡ true) → back ≡ false → (if passed then None else f) ≡ (if waiting && not passed' then f else None)
fence-by passed passed' waiting back taken filled f a b c d = rw (← a, b, d) (by passed taken c)
  where
    by : (p t : Bool) → (t ≡ true → p ≡ true) → (if p then None else f) ≡ (if not t && not p then f else None)
    by true true h = refl
    by true false h = refl
    by false true h = absurd (false≢true (h refl))
    by false false h = refl

not-back-by : (fails sensor waiting is_filled back taken filled : Bool) → waiting ≡ (not back && not taken) → is_filled ≡ (not back && filled) → (fails && (not sensor && (waiting || is_filled))) ≡ true → back ≡ false
not-back-by true false waiting is_filled true taken filled a b h = let h' = rw (a, b) at h in absurd (false≢true h')
not-back-by true false waiting is_filled false taken filled a b h = refl
not-back-by true true waiting is_filled back taken filled a b h = absurd (false≢true h)
not-back-by false sensor waiting is_filled back taken filled a b h = absurd (false≢true h)

failed-open : (script : Script) (h : List Move) (n s : ℕ) → IsRun script h → where_entry (not (is_sensor_out h n) && not (is_fill_out h n s)) (failed_of (trace_of h) n s (target_of n s (trace_of h))) ≡ entry_of (failed_entry (λ i. is_signalled i (trace_of h)) n s) (passes_at (may_return_failed (row_of script h n)) (target_at s (row_of script h n))) (target_at s (row_of script h n))
failed-open script h n s run =
    let past = trace_of h in
    let free = not (is_sensor_out h n) && not (is_fill_out h n s) in
    by-target script h n s (λ o. entry_of (failed_entry (λ i. is_signalled i past) n s) (passes_at (may_return_failed (row_of script h n)) o) o)
    (λ o. where_entry free (failed_of past n s o))
    (λ at. where-none free)
    (λ t at.
    let fails = has_error_request n past || has_error_buffer n s past in
    let waiting = state-waiting script h n s run in
    let filled = state-filled h n s in
    where-one free (is_at_device_by n s t.buffer.0 past && fails) _ _ _
    (fail-by (is_sensor_out h n) _ (is_fill_out h n s) (is_returned n s past) (is_taken_in h n s) (is_filled_in h n s) (is_at_device_by n s t.buffer.0 past) fails _ _ refl (filled-taken script h n s run) (sym (place-out h n)) (out-reads script past n s t (runs_legally script h run) at) waiting filled)
    (λ k. ap (λ (f : Option FenceNo). Failed (record { 0 = n }) (record { 0 = s }) t.buffer f)
    (fence-by (is_passed t.fence past) _ _ (is_returned n s past) (is_taken_in h n s) (is_filled_in h n s) t.fence (fence-passed past t.fence) waiting (target-passed script h n s t run at)
    (not-back-by fails _ _ _ (is_returned n s past) (is_taken_in h n s) (is_filled_in h n s) waiting filled k))))

pub failed_return_is : (script : Script) (h : List Move) (n s : ℕ) → IsRun script h → where_entry (not (is_sensor_out h n) && not (is_fill_out h n s)) (failed_due (trace_of h) n s) ≡ entry_of (failed_entry (λ i. is_signalled i (trace_of h)) n s) (is_failed_return_ready (rows script h) n s) (target_in n s (rows script h))
failed_return_is script h n s run =
    let free = not (is_sensor_out h n) && not (is_fill_out h n s) in
    by-row script h n (λ row. entry_of (failed_entry (λ i. is_signalled i (trace_of h)) n s) (target_passes may_return_failed s row) (option_and_then (target_at s) row)) (where_entry free (failed_due (trace_of h) n s))
    (λ open_. failed-open script h n s run)
    (λ closed. ap (λ (o : Option Entry). where_entry free o) (failed-closed script (trace_of h) n s (runs_legally script h run) closed) ∙ where-none free)
