-- The sensor's place and the states of the targets agree: a stage has the readout exactly where it fills one buffer, and a
-- buffer has its picture only once the sensor's work is done.
use Rattle.std.proofs.Common.{◌≡◌, ℕ, ◌+◌, Bool, true, false, ◌||◌, not, List, [], ◌∷◌, refl, sym, ap, ◌∙◌, arith, inl, inr, map, nat_lt, count_by, if◌then◌else◌}
use Rattle.std.specs.List.{list_all, list_any}
use Rattle.std.proofs.lemmas.Bool.{and_parts, cases_Bool, eq-eqb, false≢true}
use Rattle.std.proofs.lemmas.Bool.Decides.{nat_tests}
use Rattle.cam_types.specs.declared.row.TargetView.{TargetView}
use Rattle.cam_types.specs.declared.script.Script.{Script}
use Rattle.trace_model.specs.declared.entry.Sent.{Sent}
use Rattle.trace_model.specs.Frames.{has_shutter, targets_of}
use Rattle.trace_model.specs.Open.{is_open, is_settled}
use Rattle.run_model.specs.declared.step.Move.{Move}
use Rattle.run_model.specs.History.{trace_of}
use Rattle.run_model.specs.Jobs.{is_any_fill_out, is_fill_out, is_filled_in, is_sensor_done_in, is_taken_in}
use Rattle.run_model.specs.Rows.{row_of, rows, sensor_place, target_state, target_view}
use Rattle.run_model.specs.Run.{IsRun}
use Rattle.device_rows.specs.Jobs as device
use Rattle.device_rows.specs.Kept.{is_with_fill}
use Rattle.basic_lemmas.proofs.Counts.{count-cons, counts-once}
use Rattle.basic_lemmas.proofs.Lists.{all-always, all-mapped}
use Rattle.basic_lemmas.proofs.Tests.{not-by}
use Rattle.run_model.proofs.Entries.{open-sent}
use Rattle.run_model.proofs.Legal.{runs_legally}
use Rattle.state_facts.specs.FrameReadings.{rise}
use Rattle.state_facts.proofs.Orderly.{sent_fine, streams_of}
use Rattle.run_model.proofs.Unsent.{filled-taken, taken-done}
use Rattle.run_rows.specs.Kept.{fills_out, has_its_readout, has_picture, has_pictures_late, is_read_out}
use Rattle.run_rows.proofs.Counted.{each-row}
use Rattle.run_rows.proofs.Fills.{idle-before, one-out}
use Rattle.run_rows.proofs.Fours.{row-targets}
use Rattle.run_rows.proofs.Jobs.{early-taken, ok-filled}
use Rattle.run_rows.proofs.Noted.{place_by}
use Rattle.run_rows.proofs.States.{state_by, was_bad, was_early, was_ok}
use Rattle.run_rows.proofs.Work.{state-busy}

-- ---- one fill at most

count-same : (p q : Sent → Bool) (ts : List Sent) → ((t : Sent) → p t ≡ q t) → count_by p ts ≡ count_by q ts
count-same p q [] same = refl
count-same p q (t ∷ ts) same =
    count-cons p t ts ∙ (both (p t) (q t) (count_by p ts) (count_by q ts) (same t) (count-same p q ts same) ∙ sym (count-cons q t ts))
  where
    both : (a b : Bool) (k l : ℕ) → a ≡ b → k ≡ l → ((if a then 1 else 0) + k) ≡ ((if b then 1 else 0) + l)
    both a b k l x y = rw (x, y) refl

count-mapped : (p : TargetView → Bool) (f : Sent → TargetView) (ts : List Sent) → count_by p (map f ts) ≡ count_by (λ t. p (f t)) ts
count-mapped p f [] = refl
count-mapped p f (t ∷ ts) =
    count-cons p (f t) (map f ts) ∙ (ap (λ (k : ℕ). (if p (f t) then 1 else 0) + k) (count-mapped p f ts) ∙ sym (count-cons (λ u. p (f u)) t ts))

-- of rising streams only one can be the one that passes
count-one-stream : (p : ℕ → Bool) (ts : List Sent) → ((s u : ℕ) → p s ≡ true → p u ≡ true → s ≡ u) → rise (streams_of ts) ≡ true → count_by (λ t. p t.stream.0) ts ≡ (if list_any (λ t. p t.stream.0) ts then 1 else 0)
count-one-stream p [] one up = refl
count-one-stream p (t ∷ ts) one up =
    let parts = and_parts (list_all (λ u. nat_lt t.stream.0 u) (streams_of ts)) (rise (streams_of ts)) up in
    counts-once (λ u. p u.stream.0) t ts (λ here. none here ts parts.0) (count-one-stream p ts one parts.1)
  where
    apart : (s u : ℕ) → nat_lt s u ≡ true → s ≡ u → ⊥
    apart s u less same = let less' : nat_lt u u ≡ true = rw same at less in false≢true (sym (itself u) ∙ less')
      where
        itself : (u : ℕ) → nat_lt u u ≡ false
        itself u = grind (arith, nat_tests)

    none : p t.stream.0 ≡ true → (us : List Sent) → list_all (λ u. nat_lt t.stream.0 u) (streams_of us) ≡ true → list_any (λ u. p u.stream.0) us ≡ false
    none here [] all = refl
    none here (u ∷ us) all =
        let parts = and_parts (nat_lt t.stream.0 u.stream.0) (list_all (λ v. nat_lt t.stream.0 v) (streams_of us)) all in
        elim (cases_Bool (p u.stream.0)) [
          | inl both ↦ absurd (apart t.stream.0 u.stream.0 parts.0 (one t.stream.0 u.stream.0 here both))
          | inr other ↦ rw other (none here us parts.1)
        ]

fills-of : (script : Script) (h : List Move) (n : ℕ) → IsRun script h → is_open n (trace_of h) ≡ true → fills_out (row_of script h n) ≡ (if is_any_fill_out h n then 1 else 0)
fills-of script h n run open_ =
    let past = trace_of h in
    let p : TargetView → Bool = λ v. device.is_fill_out v.state in
    let fine = and_parts (rise (streams_of (targets_of n past))) (list_all (λ s. nat_lt s 4) (streams_of (targets_of n past))) (sent_fine script past n (runs_legally script h run) (open-sent n past open_)) in
    ap (λ (vs : List TargetView). count_by p vs) (row-targets script h n)
    ∙ (count-mapped p (target_view h n) (targets_of n past)
    ∙ (count-same (λ t. device.is_fill_out (target_state h n t.stream.0)) (λ t. is_fill_out h n t.stream.0) (targets_of n past) (λ t. state-busy script h n t.stream.0 run)
    ∙ count-one-stream (λ s. is_fill_out h n s) (targets_of n past) (λ s u a b. one-out script h n s u run a b) fine.0))

-- ---- the sensor's place

with-fill-by : (shot done fill : Bool) → (done ≡ false → fill ≡ false) → is_with_fill (place_by shot done fill) ≡ fill
with-fill-by true true true h = refl
with-fill-by true true false h = refl
with-fill-by true false fill h = sym (h refl)
with-fill-by false done true h = refl
with-fill-by false true false h = refl
with-fill-by false false false h = refl

place-filled : (script : Script) (h : List Move) (n : ℕ) → IsRun script h → is_with_fill (sensor_place h n) ≡ is_any_fill_out h n
place-filled script h n run = with-fill-by (has_shutter n (trace_of h)) (is_sensor_done_in h n) (is_any_fill_out h n) (idle-before script h n run)

pub readout_is : (script : Script) (h : List Move) → IsRun script h → list_all has_its_readout (rows script h) ≡ true
readout_is script h run =
    each-row script h has_its_readout
    (λ n open_. eq-eqb (fills_out (row_of script h n)) (if is_with_fill (sensor_place h n) then 1 else 0) (fills-of script h n run open_ ∙ ap (λ b. if b then 1 else 0) (sym (place-filled script h n run))))

-- ---- pictures

read-out-by : (shot fill : Bool) → is_read_out (place_by shot true fill) ≡ true
read-out-by true true = refl
read-out-by true false = refl
read-out-by false true = refl
read-out-by false false = refl

no-picture : (ok bad early settled out filled : Bool) → ok ≡ false → early ≡ false → filled ≡ false → has_picture (state_by ok bad early settled out filled) ≡ false
no-picture ok true early settled out filled a b c = rw a refl
no-picture ok false early settled true filled a b c = rw (a, b) refl
no-picture ok false early settled false filled a b c = rw (a, b, c) refl

picture-late : (script : Script) (h : List Move) (n s : ℕ) → IsRun script h → (not (has_picture (target_state h n s)) || is_read_out (sensor_place h n)) ≡ true
picture-late script h n s run = elim (cases_Bool (is_sensor_done_in h n)) [
  | inl done ↦ (
      let place : is_read_out (sensor_place h n) ≡ true = rw done (read-out-by (has_shutter n (trace_of h)) (is_any_fill_out h n)) in
      ap (λ b. not (has_picture (target_state h n s)) || b) place ∙ or-true (not (has_picture (target_state h n s)))
      )
  | inr undone ↦ (
      let untaken = not-by (is_taken_in h n s) (is_sensor_done_in h n) (taken-done script h n s run) undone in
      let unfilled = not-by (is_filled_in h n s) (is_taken_in h n s) (filled-taken script h n s run) untaken in
      let ok = not-by (was_ok h n s) (is_filled_in h n s) (ok-filled script h n s run) unfilled in
      let early = not-by (was_early h n s) (is_taken_in h n s) (early-taken script h n s run) untaken in
      let none = no-picture (was_ok h n s) (was_bad h n s) (was_early h n s) (is_settled n s (trace_of h)) (is_fill_out h n s) (is_filled_in h n s) ok early unfilled in
      ap (λ b. not b || is_read_out (sensor_place h n)) none
      )
]
  where
    or-true : (a : Bool) → (a || true) ≡ true
    or-true true = refl
    or-true false = refl

pub pictures_is : (script : Script) (h : List Move) → IsRun script h → list_all has_pictures_late (rows script h) ≡ true
pictures_is script h run =
    each-row script h has_pictures_late
    (λ n open_.
    let p : TargetView → Bool = λ v. not (has_picture v.state) || is_read_out (sensor_place h n) in
    ap (λ (vs : List TargetView). list_all p vs) (row-targets script h n)
    ∙ (all-mapped p (target_view h n) (targets_of n (trace_of h))
    ∙ all-always (λ t. p (target_view h n t)) (targets_of n (trace_of h)) (λ t. picture-late script h n t.stream.0 run)))
