-- The signal of a device fence is ready where the picture of the early return is there.
use Rattle.std.proofs.Common.{◌≡◌, ℕ, ◌==◌, Bool, true, false, ◌&&◌, ◌||◌, not, List, [], ◌∷◌, Option, Some, None, refl, sym, ap, ◌∙◌, arith, inl, inr, find, is_some, if◌then◌else◌}
use Rattle.std.specs.List.{list_any}
use Rattle.std.proofs.lemmas.Bool.Decides.{nat_tests}
use Rattle.std.proofs.lemmas.Bool.{and_parts, cases_Bool, eqb-true, false≢true, or_left, or_parts, or_right}
use Rattle.run_rows.proofs.General.{third}
use Rattle.cam_types.specs.declared.number.BufferId.{BufferId}
use Rattle.cam_types.specs.declared.number.DeviceFenceNo.{DeviceFenceNo}
use Rattle.cam_types.specs.declared.number.FrameNo.{FrameNo}
use Rattle.cam_types.specs.declared.number.StreamIx.{StreamIx}
use Rattle.cam_types.specs.declared.row.RowView.{RowView}
use Rattle.cam_types.specs.declared.row.TargetState.TheVariants.{EarlyFilled}
use Rattle.cam_types.specs.declared.row.TargetView.{TargetView}
use Rattle.cam_types.specs.declared.script.Script.{Script}
use Rattle.trace_model.specs.declared.entry.Entry.{Entry}
use Rattle.trace_model.specs.declared.entry.Entry.TheVariants.{Early, Late}
use Rattle.trace_model.specs.Entry.{brings, is_early_with}
use Rattle.trace_model.specs.Fence.{is_late}
use Rattle.trace_model.specs.Filled.{late_due, late_of}
use Rattle.trace_model.specs.Legal.{IsLegal}
use Rattle.trace_model.specs.Open.{early_fences, is_open, is_returned, is_settled}
use Rattle.trace_model.specs.Picture.{digest_of}
use Rattle.run_model.specs.declared.step.Move.{Move}
use Rattle.run_model.specs.declared.step.StepName.TheVariants.{Finish}
use Rattle.run_model.specs.History.{trace_of}
use Rattle.run_model.specs.Jobs.{is_filled_in, is_taken_in}
use Rattle.run_model.specs.Ready.{adding, late_with, move_of, where_entry}
use Rattle.run_model.specs.Rows.{is_early_return, row_of, rows, target_state}
use Rattle.run_model.specs.Run.{IsRun}
use Rattle.device_rows.specs.Ready.{is_finish_ready, is_same_state, passes_at, target_passes}
use Rattle.device_rows.specs.Rows.{row_at, target_at}
use Rattle.run_model.proofs.Legal.{runs_legally}
use Rattle.trace_laws.proofs.Early.{found-early, given, open-until-late, settled-late}
use Rattle.trace_laws.specs.Settled.{has_fence}
use Rattle.trace_laws.proofs.Settled.{fence-frame}
use Rattle.run_model.proofs.Targets.{unfilled}
use Rattle.run_rows.specs.Entries.{finish_entry}
use Rattle.run_rows.specs.Moves.{finish_move}
use Rattle.run_rows.proofs.Fours.{by-target}
use Rattle.run_rows.proofs.Frames.{by-row, row-found}
use Rattle.run_rows.proofs.Jobs.{early-taken}
use Rattle.run_rows.proofs.States.{brought-kinds, early-filled-by, returned-kinds, was_bad, was_early, was_ok}
use Rattle.basic_lemmas.proofs.Lists.{found-passes}
use Rattle.basic_lemmas.proofs.Tests.{own-number}

-- ---- the device fence of an early return

fence-any : (d n s : ℕ) (past : List Entry) → has_fence d (early_fences n s past) ≡ true → list_any (is_early_with d) past ≡ true
fence-any d n s [] has = absurd (false≢true has)
fence-any d n s (Early m t b f ∷ past) has = elim (cases_Bool ((m.0 == n) && (t.0 == s))) [
  | inl own ↦ (let has' = rw own at has in by (d == f.0) (f.0 == d) (list_any (λ g. d == g) (early_fences n s past)) (list_any (is_early_with d) past) (turned d f.0) has' (fence-any d n s past))
  | inr other ↦ (let has' = rw other at has in or_right (f.0 == d) (list_any (is_early_with d) past) (fence-any d n s past has'))
]
  where
    turned : (d f : ℕ) → (d == f) ≡ true → (f == d) ≡ true
    turned d f h = grind (arith, nat_tests, h)

    by : (a a' x y : Bool) → (a ≡ true → a' ≡ true) → (a || x) ≡ true → (x ≡ true → y ≡ true) → (a' || y) ≡ true
    by true a' x y t h k = or_left a' y (t refl)
    by false a' x y t h k = or_right a' y (k h)
fence-any d n s (e ∷ past) has = fence-any d n s past has

-- what is said of a buffer that came back early with device fence d
pub record EarlyIs (script : Script) (past : List Entry) (n s d : ℕ) : Type 0 where
  pub fences : early_fences n s past ≡ d ∷ []
  pub brought : list_any (brings n s) past ≡ false
  pub returned : is_returned n s past ≡ true
  pub settled : is_settled n s past ≡ is_late d past
  pub due : late_due script past d ≡ (if is_late d past then None else Some (Late (record { 0 = d }) (digest_of script past n s)))

early-is : (script : Script) (past : List Entry) (n s d : ℕ) (rest : List ℕ) → IsLegal script past → early_fences n s past ≡ d ∷ rest → EarlyIs script past n s d
early-is script past n s d rest legal at =
    let own : has_fence d (early_fences n s past) ≡ true = ap (λ (fs : List ℕ). has_fence d fs) at ∙ rw (own-number d) refl in
    let found = found-early past d (fence-any d n s past own) in
    by found.0 found.1 found.2 found.3 found.4 found.5 (fence-frame script past d found.0 found.1 found.2 found.3 n s legal found.4 own)
  where
    by-names : (k n t s : ℕ) → k ≡ n → t ≡ s → EarlyIs script past k t d → EarlyIs script past n s d
    by-names k n t s a b h = rw (a, b) at h

    by : (k : FrameNo) (t : StreamIx) (b : BufferId) (f : DeviceFenceNo) → find (is_early_with d) past ≡ Some (Early k t b f) → f.0 ≡ d → ((k.0 == n) && (t.0 == s)) ≡ true → EarlyIs script past n s d
    by k t b f found same own =
        let parts = and_parts (k.0 == n) (t.0 == s) own in
        let frame' : k.0 ≡ n = eqb-true k.0 n parts.0 in
        let stream : t.0 ≡ s = eqb-true t.0 s parts.1 in
        let g = given script past d k t b f legal found in
        let due : late_due script past d ≡ (if is_late d past then None else Some (Late (record { 0 = d }) (digest_of script past k.0 t.0))) = ap (λ (o : Option Entry). late_of script past d o) found in
        let settled = settled-late past k.0 t.0 f.0 g in
        let all : EarlyIs script past k.0 t.0 d = record {
          fences = g.fences ∙ ap (λ (i : ℕ). i ∷ []) same;
          brought = g.brought;
          returned = g.returned;
          settled = settled ∙ ap (λ (i : ℕ). is_late i past) same;
          due = due;
        } in
        by-names k.0 n t.0 s frame' stream all

-- ---- whether a buffer came back early

no-fences : (n s : ℕ) (past : List Entry) → early_fences n s past ≡ [] → list_any (is_early_return n s) past ≡ false
no-fences n s [] at = refl
no-fences n s (Early m t b f ∷ past) at = elim (cases_Bool ((m.0 == n) && (t.0 == s))) [
  | inl own ↦ (let at' = rw own at at in absurd (cc))
  | inr other ↦ (let at' = rw other at at in rw other (no-fences n s past at'))
]
no-fences n s (e ∷ past) at = no-fences n s past at

state-is : (script : Script) (h : List Move) (n s : ℕ) → IsRun script h → is_same_state (target_state h n s) EarlyFilled ≡ ((not (was_ok h n s || was_bad h n s) && was_early h n s) && (not (is_settled n s (trace_of h)) && is_filled_in h n s))
state-is script h n s run =
    early-filled-by (was_ok h n s) (was_bad h n s) (was_early h n s) (is_settled n s (trace_of h)) (is_taken_in h n s) (is_filled_in h n s) (early-taken script h n s run)

state-none : (script : Script) (h : List Move) (n s : ℕ) → IsRun script h → early_fences n s (trace_of h) ≡ [] → is_same_state (target_state h n s) EarlyFilled ≡ false
state-none script h n s run at =
    state-is script h n s run ∙ by (not (was_ok h n s || was_bad h n s)) (was_early h n s) (not (is_settled n s (trace_of h)) && is_filled_in h n s) (no-fences n s (trace_of h) at)
  where
    by : (a b c : Bool) → b ≡ false → ((a && b) && c) ≡ false
    by true b c h = rw h refl
    by false b c h = refl

state-late : (script : Script) (h : List Move) (n s d : ℕ) → IsRun script h → EarlyIs script (trace_of h) n s d → is_same_state (target_state h n s) EarlyFilled ≡ (not (is_late d (trace_of h)) && is_filled_in h n s)
state-late script h n s d run is =
    let past = trace_of h in
    let none = or_parts (was_ok h n s) (was_bad h n s) (brought-kinds n s past ∙ is.brought) in
    state-is script h n s run
    ∙ by (was_ok h n s) (was_bad h n s) (was_early h n s) (is_settled n s past) (is_late d past) (is_filled_in h n s) none.0 none.1 (third (was_ok h n s) (was_bad h n s) (was_early h n s) (returned-kinds n s past ∙ is.returned) none.0 none.1) is.settled
  where
    by : (ok bad early settled late filled : Bool) → ok ≡ false → bad ≡ false → early ≡ true → settled ≡ late → ((not (ok || bad) && early) && (not settled && filled)) ≡ (not late && filled)
    by ok bad early settled late filled a b c d = rw (a, b, c, d) refl

-- ---- the signal

late-closed : (script : Script) (past : List Entry) (n s d : ℕ) (o : Option Entry) → IsLegal script past → find (is_early_with d) past ≡ o → has_fence d (early_fences n s past) ≡ true → is_open n past ≡ false → late_of script past d o ≡ None
late-closed script past n s d None legal found has closed = refl
late-closed script past n s d (Some (Early m t b f)) legal found has closed =
    let own = and_parts (m.0 == n) (t.0 == s) (fence-frame script past d m t b f n s legal found has) in
    let g = given script past d m t b f legal found in
    let at : f.0 ≡ d = eqb-true f.0 d (found-passes (is_early_with d) past (Early m t b f) found) in
    elim (cases_Bool (is_late f.0 past)) [
      | inl late ↦ (let late' : is_late d past ≡ true = ap (λ i. is_late i past) (sym at) ∙ late in rw late' refl)
      | inr early ↦ absurd (false≢true (sym closed ∙ (ap (λ i. is_open i past) (sym (eqb-true m.0 n own.0)) ∙ open-until-late past m.0 t.0 f.0 g early)))
    ]
late-closed script past n s d (Some _) legal found has closed = refl

finish-closed : (script : Script) (past : List Entry) (n s : ℕ) (fences : List ℕ) → IsLegal script past → early_fences n s past ≡ fences → is_open n past ≡ false → late_with script past fences ≡ None
finish-closed script past n s [] legal at closed = refl
finish-closed script past n s (d ∷ ds) legal at closed =
    let own = own-number d in
    let has : has_fence d (early_fences n s past) ≡ true = ap (λ (fs : List ℕ). has_fence d fs) at ∙ rw own refl in
    late-closed script past n s d (find (is_early_with d) past) legal refl has closed

where-late : (filled late ready : Bool) (e : Entry) → ready ≡ (not late && filled) → where_entry filled (if late then None else Some e) ≡ where_entry ready (Some e)
where-late true true ready e h = rw h refl
where-late true false ready e h = rw h refl
where-late false true ready e h = rw h refl
where-late false false ready e h = rw h refl

where-none : (a b : Bool) → where_entry a None ≡ where_entry b None
where-none true true = refl
where-none true false = refl
where-none false true = refl
where-none false false = refl

finish-by : (script : Script) (h : List Move) (n s : ℕ) (fences : List ℕ) → IsRun script h → early_fences n s (trace_of h) ≡ fences → where_entry (is_filled_in h n s) (late_with script (trace_of h) fences) ≡ where_entry (is_same_state (target_state h n s) EarlyFilled) (finish_entry (digest_of script (trace_of h) n s) fences)
finish-by script h n s [] run at = where-none (is_filled_in h n s) (is_same_state (target_state h n s) EarlyFilled)
finish-by script h n s (d ∷ rest) run at =
    let past = trace_of h in
    let is = early-is script past n s d rest (runs_legally script h run) at in
    let one : finish_entry (digest_of script past n s) (d ∷ rest) ≡ Some (Late (record { 0 = d }) (digest_of script past n s)) = ap (λ (fs : List ℕ). finish_entry (digest_of script past n s) fs) (sym at ∙ is.fences) in
    ap (λ (o : Option Entry). where_entry (is_filled_in h n s) o) is.due
    ∙ (where-late (is_filled_in h n s) (is_late d past) (is_same_state (target_state h n s) EarlyFilled) (Late (record { 0 = d }) (digest_of script past n s)) (state-late script h n s d run is)
    ∙ ap (λ (o : Option Entry). where_entry (is_same_state (target_state h n s) EarlyFilled) o) (sym one))

abbrev pub finish_test : RowView → TargetView → Bool
finish_test row target = is_same_state target.state EarlyFilled

finish-open : (script : Script) (h : List Move) (n s : ℕ) → IsRun script h → where_entry (is_filled_in h n s) (late_with script (trace_of h) (early_fences n s (trace_of h))) ≡ where_entry (passes_at (finish_test (row_of script h n)) (target_at s (row_of script h n))) (finish_entry (digest_of script (trace_of h) n s) (early_fences n s (trace_of h)))
finish-open script h n s run =
    let past = trace_of h in
    let fences = early_fences n s past in
    by-target script h n s (λ o. where_entry (passes_at (finish_test (row_of script h n)) o) (finish_entry (digest_of script past n s) fences))
    (λ o. where_entry (is_filled_in h n s) (late_with script past fences))
    (λ at. ap (λ b. where_entry b (late_with script past fences)) (unfilled script h n s run at))
    (λ t at. finish-by script h n s fences run refl)

pub finish_is : (script : Script) (h : List Move) (n : FrameNo) (s : StreamIx) → IsRun script h → move_of script h (Finish n s) ≡ finish_move script (trace_of h) (rows script h) n s
finish_is script h n s run =
    by-row script h n.0 (λ row. adding (Finish n s) (where_entry (target_passes finish_test s.0 row) (finish_entry (digest_of script (trace_of h) n.0 s.0) (early_fences n.0 s.0 (trace_of h))))) (move_of script h (Finish n s))
    (λ open_. ap (λ (o : Option Entry). adding (Finish n s) o) (finish-open script h n.0 s.0 run))
    (λ closed. ap (λ (o : Option Entry). adding (Finish n s) (where_entry (is_filled_in h n.0 s.0) o)) (finish-closed script (trace_of h) n.0 s.0 (early_fences n.0 s.0 (trace_of h)) (runs_legally script h run) refl closed)
    ∙ ap (λ (o : Option Entry). adding (Finish n s) o) (where-none (is_filled_in h n.0 s.0) false))

-- ---- where it is ready

ready-by : (script : Script) (h : List Move) (n : FrameNo) (s : StreamIx) (fences : List ℕ) → IsRun script h → early_fences n.0 s.0 (trace_of h) ≡ fences → is_some (adding (Finish n s) (where_entry (is_same_state (target_state h n.0 s.0) EarlyFilled) (finish_entry (digest_of script (trace_of h) n.0 s.0) fences))) ≡ is_same_state (target_state h n.0 s.0) EarlyFilled
ready-by script h n s [] run at = rw (state-none script h n.0 s.0 run at) refl
ready-by script h n s (d ∷ []) run at = by (is_same_state (target_state h n.0 s.0) EarlyFilled) (Late (record { 0 = d }) (digest_of script (trace_of h) n.0 s.0))
  where
    by : (b : Bool) (e : Entry) → is_some (adding (Finish n s) (where_entry b (Some e))) ≡ b
    by true e = refl
    by false e = refl
ready-by script h n s (d ∷ g ∷ rest) run at =
    let is = early-is script (trace_of h) n.0 s.0 d (g ∷ rest) (runs_legally script h run) at in
    let wrong : d ∷ g ∷ rest ≡ d ∷ [] = sym at ∙ is.fences in
    absurd (cc)

ready-open : (script : Script) (h : List Move) (n : FrameNo) (s : StreamIx) → IsRun script h → is_some (adding (Finish n s) (where_entry (passes_at (finish_test (row_of script h n.0)) (target_at s.0 (row_of script h n.0))) (finish_entry (digest_of script (trace_of h) n.0 s.0) (early_fences n.0 s.0 (trace_of h))))) ≡ passes_at (finish_test (row_of script h n.0)) (target_at s.0 (row_of script h n.0))
ready-open script h n s run =
    let past = trace_of h in
    let fences = early_fences n.0 s.0 past in
    let state' = is_same_state (target_state h n.0 s.0) EarlyFilled in
    let test : Option TargetView → Bool = passes_at (finish_test (row_of script h n.0)) in
    sym (by-target script h n.0 s.0 (λ o. is_some (adding (Finish n s) (where_entry (test o) (finish_entry (digest_of script past n.0 s.0) fences)))) (λ o. is_some o && state') (λ at. refl) (λ t at. sym (ready-by script h n s fences run refl)))
    ∙ by-target script h n.0 s.0 test (λ o. is_some o && state') (λ at. refl) (λ t at. refl)

pub finish_ready : (script : Script) (h : List Move) (n : FrameNo) (s : StreamIx) → IsRun script h → is_some (move_of script h (Finish n s)) ≡ is_finish_ready (rows script h) n.0 s.0
finish_ready script h n s run =
    ap (λ (o : Option Move). is_some o) (finish_is script h n s run)
    ∙ sym (same-ready script h n s run)
  where
    same-ready : (script : Script) (h : List Move) (n : FrameNo) (s : StreamIx) → IsRun script h → is_finish_ready (rows script h) n.0 s.0 ≡ is_some (finish_move script (trace_of h) (rows script h) n s)
    same-ready script h n s run = elim (cases_Bool (is_open n.0 (trace_of h))) [
      | inl open_ ↦ (let found : row_at n.0 (rows script h) ≡ Some (row_of script h n.0) = row-found script h n.0 ∙ rw open_ refl in rw found (sym (ready-open script h n s run)))
      | inr closed ↦ (let found : row_at n.0 (rows script h) ≡ None = row-found script h n.0 ∙ rw closed refl in rw found refl)
    ]
