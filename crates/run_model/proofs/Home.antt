-- No fill is out of a buffer with which the device is done, so none of a frame that is closed.
use Rattle.std.proofs.Common.{◌≡◌, ℕ, ◌==◌, ◌+◌, Bool, true, false, ◌&&◌, ◌||◌, not, List, [], ◌∷◌, Option, Some, None, refl, sym, ap, ◌∙◌, inl, inr, find, if◌then◌else◌}
use Rattle.std.specs.List.{list_all, list_any}
use Rattle.std.proofs.lemmas.Bool.{and_parts, cases_Bool, eq-eqb, eqb-true, false≢true}
use Rattle.cam_types.specs.declared.script.Script.{Script}
use Rattle.trace_model.specs.declared.entry.Entry.{Entry}
use Rattle.trace_model.specs.declared.entry.Entry.TheVariants.{Filled, Failed, Early as EarlyEntry, Late as LateEntry}
use Rattle.trace_model.specs.declared.entry.Sent.{Sent}
use Rattle.trace_model.specs.Client.{begin_due}
use Rattle.trace_model.specs.Calls.{next_command}
use Rattle.trace_model.specs.Entry.{is_early_with}
use Rattle.trace_model.specs.Errors.{failed_due}
use Rattle.trace_model.specs.Fence.{is_late}
use Rattle.trace_model.specs.Filled.{filled_due, early_due, late_of}
use Rattle.trace_model.specs.Frames.{frames, shutter_time, target_of, targets_of}
use Rattle.trace_model.specs.Legal.{IsLegal}
use Rattle.trace_model.specs.Open.{early_fences, is_open, is_settled}
use Rattle.trace_model.specs.Partial.{partial_count}
use Rattle.trace_model.specs.Picture.{digest_of}
use Rattle.trace_model.specs.Queue.{first_in, next, queued}
use Rattle.cam_types.specs.declared.request.Queued.{Queued}
use Rattle.trace_model.specs.Shutter.{may_expose}
use Rattle.trace_model.specs.Stopping.{is_stopping}
use Rattle.run_model.specs.declared.step.Move.{Move}
use Rattle.run_model.specs.declared.step.StepName.{StepName}
use Rattle.run_model.specs.declared.step.StepName.TheVariants.{Send, Release, Signal, Client, DropQueued, Fail, ReturnFailed, Shutter, SensorDone, Partial, TakeFill, FillDone, Deliver, Early, Finish}
use Rattle.run_model.specs.History.{trace_of, with_entry, is_fill_done, is_take_fill}
use Rattle.run_model.specs.Jobs.{is_fill_out, is_filled_in, is_sensor_out, is_taken_in}
use Rattle.run_model.specs.Ready.{adding, finish_due, late_with, may_take_fill, move_of}
use Rattle.run_model.specs.Run.{IsRun}
use Rattle.trace_laws.proofs.Once.{settled-returned}
use Rattle.run_model.proofs.Legal.{adds, adds-none, begin_shape, by_failing, by_test, call_shape, drop_shape, early_shape, failed_shape, filled_shape, part_shape, runs_legally, shutter_shape, where-entry}
use Rattle.trace_laws.proofs.Shutters.{shutter-sent}
use Rattle.trace_laws.proofs.Done.{closed-is}
use Rattle.trace_laws.proofs.Settled.{fence-frame, settled-noted}
use Rattle.trace_laws.specs.Settled.{has_fence, settles}
use Rattle.run_model.proofs.Targets.{taken_target}
use Rattle.run_model.proofs.Unsent.{done-shot, take-parts, take-ready, taken-done}
use Rattle.run_model.proofs.Shapes.{error-shape, or-shape, send-shape}

-- the entry can end the device's work on a buffer
abbrev pub is_ending : Entry → Bool
is_ending (Filled _ _ _ _ _) = true
is_ending (Failed _ _ _ _) = true
is_ending (LateEntry _ _) = true
is_ending _ = false

abbrev pub GoesOn : Entry → Type 0
GoesOn e = is_ending e ≡ false

goes-settles : (n s : ℕ) (e : Entry) (fences : List ℕ) → GoesOn e → settles n s e fences ≡ false
goes-settles n s (Filled m t b f d) fences h = absurd (false≢true (sym h))
goes-settles n s (Failed m t b f) fences h = absurd (false≢true (sym h))
goes-settles n s (LateEntry d x) fences h = absurd (false≢true (sym h))
goes-settles n s _ fences h = refl

-- ---- an entry that ends the work leaves no fill out

abbrev pub Ends : List Move → ℕ → ℕ → Entry → Type 0
Ends h n s e = settles n s e (early_fences n s (trace_of h)) ≡ true → is_fill_out h n s ≡ false

goes-ends : (h : List Move) (n s : ℕ) (e : Entry) → GoesOn e → Ends h n s e
goes-ends h n s e goes is = absurd (false≢true (sym (goes-settles n s e (early_fences n s (trace_of h)) goes) ∙ is))

out-at : (h : List Move) (n s k t : ℕ) → is_fill_out h k t ≡ false → ((k == n) && (t == s)) ≡ true → is_fill_out h n s ≡ false
out-at h n s k t out is = let parts = and_parts (k == n) (t == s) is in rw (eqb-true k n parts.0, eqb-true t s parts.1) at out

filled-out : (h : List Move) (k t : ℕ) → is_filled_in h k t ≡ true → is_fill_out h k t ≡ false
filled-out h k t is = rw is (and-none (is_taken_in h k t))
  where
    and-none : (a : Bool) → (a && false) ≡ false
    and-none true = refl
    and-none false = refl

not-true' : (a b : Bool) → (not a && not b) ≡ true → b ≡ false
not-true' a false h = refl
not-true' true true h = absurd (false≢true h)
not-true' false true h = absurd (false≢true h)

late-ends : (script : Script) (h : List Move) (n s k t d : ℕ) (o : Option Entry) (e : Entry) → IsLegal script (trace_of h) → find (is_early_with d) (trace_of h) ≡ o → has_fence d (early_fences k t (trace_of h)) ≡ true → is_fill_out h k t ≡ false → late_of script (trace_of h) d o ≡ Some e → Ends h n s e
late-ends script h n s k t d None e legal found has out due = absurd (cc)
late-ends script h n s k t d (Some (EarlyEntry m u b f)) e legal found has out due =
    by_failing (Ends h n s) (is_late d (trace_of h)) (LateEntry (record { 0 = d }) (digest_of script (trace_of h) m.0 u.0)) e due
    (λ is.
    let own = and_parts (m.0 == k) (u.0 == t) (fence-frame script (trace_of h) d m u b f k t legal found has) in
    let its = fence-frame script (trace_of h) d m u b f n s legal found is in
    out-at h n s m.0 u.0 (rw (eqb-true m.0 k own.0, eqb-true u.0 t own.1) out) its)
late-ends script h n s k t d (Some _) e legal found has out due = absurd (cc)

finish-ends : (script : Script) (h : List Move) (n s k t : ℕ) (fences : List ℕ) (e : Entry) → IsLegal script (trace_of h) → early_fences k t (trace_of h) ≡ fences → is_fill_out h k t ≡ false → late_with script (trace_of h) fences ≡ Some e → Ends h n s e
finish-ends script h n s k t [] e legal at out due = absurd (cc)
finish-ends script h n s k t (d ∷ ds) e legal at out due =
    let own = eq-eqb d d refl in
    let has : has_fence d (early_fences k t (trace_of h)) ≡ true = ap (λ (fs : List ℕ). has_fence d fs) at ∙ rw own refl in
    late-ends script h n s k t d (find (is_early_with d) (trace_of h)) e legal refl has out due

abbrev pub EndsIn : List Move → ℕ → ℕ → Option Entry → Type 0
EndsIn h n s None = Unit {0}
EndsIn h n s (Some e) = Ends h n s e

adds-ends : (h : List Move) (n s : ℕ) (step : StepName) (o : Option Entry) (m : Move) → adding step o ≡ Some m → ((e : Entry) → o ≡ Some e → Ends h n s e) → EndsIn h n s m.entry
adds-ends h n s step o m at each = let a = adds step o m at in let ends = each a.0 a.1 in rw a.2 ends

adds-goes : (h : List Move) (n s : ℕ) (step : StepName) (o : Option Entry) (m : Move) → adding step o ≡ Some m → ((e : Entry) → o ≡ Some e → GoesOn e) → EndsIn h n s m.entry
adds-goes h n s step o m at each = adds-ends h n s step o m at (λ e due. goes-ends h n s e (each e due))

move-ends : (script : Script) (h : List Move) (step : StepName) (m : Move) (n s : ℕ) → IsLegal script (trace_of h) → move_of script h step ≡ Some m → EndsIn h n s m.entry
move-ends script h Send m n s legal k = adds-goes h n s Send _ m k (λ e d. send-shape GoesOn script (trace_of h) e d (λ w ts. refl))
move-ends script h (Release b) m n s legal k = adds-goes h n s (Release b) _ m k (λ e d. by_test GoesOn _ _ e d (λ t. refl))
move-ends script h (Signal f) m n s legal k = adds-goes h n s (Signal f) _ m k (λ e d. by_test GoesOn _ _ e d (λ t. refl))
move-ends script h Client m n s legal k =
    adds-goes h n s Client _ m k
    (λ e d. or-shape GoesOn (begin_due script (trace_of h)) _ e d (λ x l. begin_shape GoesOn (trace_of h) (next_command script (trace_of h)) x l (λ c. refl)) (λ x l. call_shape GoesOn script (trace_of h) (next_command script (trace_of h)) x l (λ c. refl)))
move-ends script h DropQueued m n s legal k = adds-goes h n s DropQueued _ m k (λ e d. drop_shape GoesOn (trace_of h) (is_stopping (trace_of h)) (first_in (queued script (trace_of h))) e d (λ w. refl))
move-ends script h (Fail f) m n s legal k = adds-goes h n s (Fail f) _ m k (λ e d. error-shape GoesOn script (trace_of h) f.0 e d refl refl refl (λ t. refl))
move-ends script h (ReturnFailed f t) m n s legal k =
    adds-ends h n s (ReturnFailed f t) _ m k
    (λ e d.
    let both = where-entry (not (is_sensor_out h f.0) && not (is_fill_out h f.0 t.0)) (failed_due (trace_of h) f.0 t.0) e d in
    failed_shape (Ends h n s) (trace_of h) f.0 t.0 (target_of f.0 t.0 (trace_of h)) e both.1 (λ u is. out-at h n s f.0 t.0 (not-true' (is_sensor_out h f.0) (is_fill_out h f.0 t.0) both.0) is))
move-ends script h Shutter m n s legal k = adds-goes h n s Shutter _ m k (λ e d. shutter_shape GoesOn script (trace_of h) (find (may_expose script (trace_of h)) (frames (trace_of h))) e d (λ i. refl))
move-ends script h (SensorDone f) m n s legal k = rw (adds-none (SensorDone f) (is_sensor_out h f.0) m k).1 tt
move-ends script h (Partial f) m n s legal k = adds-goes h n s (Partial f) _ m k (λ e d. part_shape GoesOn script (trace_of h) f.0 (partial_count f.0 (trace_of h) + 1) (shutter_time f.0 (trace_of h)) e d (λ part. refl))
move-ends script h (TakeFill f t) m n s legal k = rw (adds-none (TakeFill f t) (may_take_fill script h f.0 t.0) m k).1 tt
move-ends script h (FillDone f t) m n s legal k = rw (adds-none (FillDone f t) (is_fill_out h f.0 t.0) m k).1 tt
move-ends script h (Deliver f t) m n s legal k =
    adds-ends h n s (Deliver f t) _ m k
    (λ e d.
    let both = where-entry (is_filled_in h f.0 t.0) (filled_due script (trace_of h) f.0 t.0) e d in
    filled_shape (Ends h n s) script (trace_of h) f.0 t.0 (target_of f.0 t.0 (trace_of h)) e both.1 (λ u is. out-at h n s f.0 t.0 (filled-out h f.0 t.0 both.0) is))
move-ends script h (Early f t) m n s legal k =
    adds-goes h n s (Early f t) _ m k
    (λ e d. early_shape GoesOn script (trace_of h) f.0 t.0 (target_of f.0 t.0 (trace_of h)) e (where-entry (is_fill_out h f.0 t.0) (early_due script (trace_of h) f.0 t.0) e d).1 (λ u. refl))
move-ends script h (Finish f t) m n s legal k =
    adds-ends h n s (Finish f t) _ m k
    (λ e d.
    let both = where-entry (is_filled_in h f.0 t.0) (finish_due script (trace_of h) f.0 t.0) e d in
    finish-ends script h n s f.0 t.0 (early_fences f.0 t.0 (trace_of h)) e legal refl (filled-out h f.0 t.0 both.0) both.1)

-- ---- so none is out of a buffer with which the device is done

not-out : (a b c d : Bool) → a ≡ false → (b && not d) ≡ false → ((a || b) && not (c || d)) ≡ false
not-out true b c d h k = absurd (false≢true (sym h))
not-out false false c d h k = refl
not-out false true true d h k = refl
not-out false true false d h k = k

or-case : (a b c : Bool) → (a || b) ≡ true → (a ≡ true → c ≡ false) → (b ≡ true → c ≡ false) → c ≡ false
or-case true b c h first second = first refl
or-case false true c h first second = second refl
or-case false false c h first second = absurd (false≢true h)

take-silent : (script : Script) (h : List Move) (step : StepName) (m : Move) (n s : ℕ) → move_of script h step ≡ Some m → is_take_fill n s step ≡ true → m.entry ≡ None
take-silent script h (TakeFill k t) m n s at is = (adds-none (TakeFill k t) (may_take_fill script h k.0 t.0) m at).1
take-silent script h _ m n s at is = absurd (false≢true is)

untaken-now : (script : Script) (m : Move) (h : List Move) (n s : ℕ) → IsRun script (m ∷ h) → is_settled n s (trace_of (m ∷ h)) ≡ true → is_take_fill n s m.step ≡ false
untaken-now script m h n s run is = elim (cases_Bool (is_take_fill n s m.step)) [
  | inl here ↦ (
      let past = trace_of h in
      let none = take-silent script h m.step m n s run.0 here in
      let settled : is_settled n s past ≡ true = sym (ap (λ (o : Option Entry). is_settled n s (with_entry o past)) none) ∙ is in
      let back = settled-returned n s past settled in
      let free = (take-parts script h n s (take-ready script h m.step m n s run.0 here)).here in
      absurd (false≢true (sym (ap not back) ∙ free))
      )
  | inr other ↦ other
]

home-before : (script : Script) (h : List Move) (n s : ℕ) (o : Option Entry) → EndsIn h n s o → IsLegal script (with_entry o (trace_of h)) → is_settled n s (with_entry o (trace_of h)) ≡ true → (is_settled n s (trace_of h) ≡ true → is_fill_out h n s ≡ false) → is_fill_out h n s ≡ false
home-before script h n s None ends legal is before = before is
home-before script h n s (Some e) ends legal is before =
    or-case (settles n s e (early_fences n s (trace_of h))) (is_settled n s (trace_of h)) (is_fill_out h n s) (sym (settled-noted script (trace_of h) e n s legal) ∙ is) ends before

pub settled_home : (script : Script) (h : List Move) (n s : ℕ) → IsRun script h → is_settled n s (trace_of h) ≡ true → is_fill_out h n s ≡ false
settled_home script [] n s run is = absurd (false≢true is)
settled_home script (m ∷ h) n s run is =
    let ends = move-ends script h m.step m n s (runs_legally script h run.1) run.0 in
    let before = home-before script h n s m.entry ends (runs_legally script (m ∷ h) run) is (λ k. settled_home script h n s run.1 k) in
    not-out (is_take_fill n s m.step) (is_taken_in h n s) (is_fill_done n s m.step) (is_filled_in h n s) (untaken-now script m h n s run is) before

one-settled : (past : List Entry) (n s : ℕ) (targets : List Sent) → list_all (λ t. is_settled n t.stream.0 past) targets ≡ true → list_any (λ t. t.stream.0 == s) targets ≡ true → is_settled n s past ≡ true
one-settled past n s [] all has = absurd (false≢true has)
one-settled past n s (t ∷ targets) all has =
    let parts = and_parts (is_settled n t.stream.0 past) (list_all (λ u. is_settled n u.stream.0 past) targets) all in
    elim (cases_Bool (t.stream.0 == s)) [
      | inl here ↦ ap (λ (i : ℕ). is_settled n i past) (sym (eqb-true t.stream.0 s here)) ∙ parts.0
      | inr other ↦ (let has' = rw other at has in one-settled past n s targets parts.1 has')
    ]

-- a fill that is out is of an open frame
pub fill_open : (script : Script) (h : List Move) (n s : ℕ) → IsRun script h → is_fill_out h n s ≡ true → is_open n (trace_of h) ≡ true
fill_open script h n s run out = elim (cases_Bool (is_open n (trace_of h))) [
  | inl open_ ↦ open_
  | inr closed ↦ (
      let past = trace_of h in
      let taken = (and_parts (is_taken_in h n s) (not (is_filled_in h n s)) out).0 in
      let has = taken_target script h n s run taken in
      let sent = shutter-sent script past n (runs_legally script h run) (done-shot script h n run (taken-done script h n s run taken)) in
      let settled = one-settled past n s (targets_of n past) (closed-is past n sent closed).1 has in
      absurd (false≢true (sym (settled_home script h n s run settled) ∙ out))
      )
]
