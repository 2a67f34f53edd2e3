-- The first candidate of a kind is the first of that kind's own list.
use Rattle.std.proofs.Common.{◌≡◌, ℕ, ◌==◌, Bool, true, false, List, [], ◌∷◌, ◌++◌, Option, Some, None, refl, sym, ap, ◌∙◌, arith, inl, inr, length, map, slice_get, if◌then◌else◌}
use Rattle.std.specs.Prelude.{get_or}
use Rattle.std.specs.List.{flat_map, list_all, list_any, range_with_len}
use Rattle.std.specs.Option.{option_or}
use Rattle.std.proofs.lemmas.Bool.{cases_Bool, and_parts, eqb-true}
use Rattle.std.proofs.lemmas.List.Folds.{find-append}
use Rattle.basic_lemmas.proofs.Lists.{all-always, all-append, all-filtered, all-mapped}
use Rattle.cam_types.specs.Four.{four_list}
use Rattle.cam_types.specs.declared.number.FrameNo.{FrameNo}
use Rattle.cam_types.specs.declared.number.StreamIx.{StreamIx}
use Rattle.cam_types.specs.declared.row.RowView.{RowView}
use Rattle.cam_types.specs.declared.row.TargetView.{TargetView}
use Rattle.cam_types.specs.declared.script.Script.{Script}
use Rattle.run_model.specs.declared.step.Kind.{Kind}
use Rattle.run_model.specs.declared.step.Kind.TheVariants as kind
use Rattle.run_model.specs.declared.step.StepName.{StepName}
use Rattle.run_model.specs.declared.step.StepName.TheVariants.{Release, Signal, Fail, ReturnFailed, SensorDone, Partial, TakeFill, FillDone, Deliver, Early, Finish}
use Rattle.service_core.specs.Candidates.{all_kinds, is_ready_by, ready_in, row_steps, steps_of_kind, target_steps}
use Rattle.service_parts.specs.Parts.{Parts}
use Rattle.service_core.specs.Kinds.{first_of, is_of, kind_of, place_of}

-- ---- kinds have places of their own

abbrev kind-at : ℕ → Kind
kind-at i = get_or all_kinds i kind.Send

at-place : (k : Kind) → kind-at (place_of k) ≡ k
at-place kind.Send = refl
at-place kind.Release = refl
at-place kind.Signal = refl
at-place kind.Client = refl
at-place kind.DropQueued = refl
at-place kind.Fail = refl
at-place kind.ReturnFailed = refl
at-place kind.Shutter = refl
at-place kind.SensorDone = refl
at-place kind.Partial = refl
at-place kind.TakeFill = refl
at-place kind.FillDone = refl
at-place kind.Deliver = refl
at-place kind.Early = refl
at-place kind.Finish = refl

same-kind : (k l : Kind) → place_of k ≡ place_of l → k ≡ l
same-kind k l same = sym (at-place k) ∙ ap kind-at same ∙ at-place l

-- ---- the steps of a kind are of the kind

rows-of : (k : Kind) (step : FrameNo → StepName) (rows : List RowView) → ((n : FrameNo) → is_of k (step n) ≡ true) → list_all (is_of k) (row_steps step rows) ≡ true
rows-of k step rows each = all-mapped (is_of k) (λ (row : RowView). step row.frame) rows ∙ all-always (λ (row : RowView). is_of k (step row.frame)) rows (λ row. each row.frame)

targets-of : (k : Kind) (step : FrameNo → StreamIx → StepName) (rows : List RowView) → ((n : FrameNo) (s : StreamIx) → is_of k (step n s) ≡ true) → list_all (is_of k) (target_steps step rows) ≡ true
targets-of k step [] each = refl
targets-of k step (row ∷ rows) each =
    let steps = map (λ (target : TargetView). step row.frame target.stream) (four_list row.targets) in
    let here : list_all (is_of k) steps ≡ true = all-mapped (is_of k) (λ (target : TargetView). step row.frame target.stream) (four_list row.targets) ∙ all-always (λ (target : TargetView). is_of k (step row.frame target.stream)) (four_list row.targets) (λ target. each row.frame target.stream) in
    all-append (is_of k) steps (target_steps step rows) here (targets-of k step rows each)

numbers-of : (k : Kind) (step : ℕ → StepName) (ns : List ℕ) → ((n : ℕ) → is_of k (step n) ≡ true) → list_all (is_of k) (map step ns) ≡ true
numbers-of k step ns each = all-mapped (is_of k) step ns ∙ all-always (λ n. is_of k (step n)) ns each

kind-steps : (p : Parts) (k : Kind) → list_all (is_of k) (steps_of_kind p k) ≡ true
kind-steps p kind.Send = refl
kind-steps p kind.Release = numbers-of kind.Release (λ b. Release (record { 0 = b })) (range_with_len p.buffers.first (length p.buffers.places)) (λ n. refl)
kind-steps p kind.Signal = numbers-of kind.Signal (λ f. Signal (record { 0 = f })) (range_with_len 0 (length p.buffers.signalled)) (λ n. refl)
kind-steps p kind.Client = refl
kind-steps p kind.DropQueued = refl
kind-steps p kind.Fail = rows-of kind.Fail Fail p.rows (λ n. refl)
kind-steps p kind.ReturnFailed = targets-of kind.ReturnFailed ReturnFailed p.rows (λ n s. refl)
kind-steps p kind.Shutter = refl
kind-steps p kind.SensorDone = rows-of kind.SensorDone SensorDone p.rows (λ n. refl)
kind-steps p kind.Partial = rows-of kind.Partial Partial p.rows (λ n. refl)
kind-steps p kind.TakeFill = targets-of kind.TakeFill TakeFill p.rows (λ n s. refl)
kind-steps p kind.FillDone = targets-of kind.FillDone FillDone p.rows (λ n s. refl)
kind-steps p kind.Deliver = targets-of kind.Deliver Deliver p.rows (λ n s. refl)
kind-steps p kind.Early = targets-of kind.Early Early p.rows (λ n s. refl)
kind-steps p kind.Finish = targets-of kind.Finish Finish p.rows (λ n s. refl)

ready-steps : (script : Script) (p : Parts) (k : Kind) → list_all (is_of k) (ready_in script p k) ≡ true
ready-steps script p k = all-filtered (is_of k) (is_ready_by script p) (steps_of_kind p k) (kind-steps p k)

-- ---- the first of a kind

first-here : (k : Kind) (steps : List StepName) → list_all (is_of k) steps ≡ true → first_of k steps ≡ slice_get steps 0
first-here k [] all = refl
first-here k (step ∷ steps) all = let is = (and_parts (is_of k step) (list_all (is_of k) steps) all).0 in rw is refl

differs : (k l : Kind) (step : StepName) → (place_of k == place_of l) ≡ false → is_of l step ≡ true → is_of k step ≡ false
differs k l step apart of =
    let same : place_of (kind_of step) ≡ place_of l = eqb-true (place_of (kind_of step)) (place_of l) of in
    elim (cases_Bool (is_of k step)) [
      | inl y ↦ (
          let other : place_of (kind_of step) ≡ place_of k = eqb-true (place_of (kind_of step)) (place_of k) y in
          let both : place_of k ≡ place_of l = sym other ∙ same in
          absurd (grind (arith, both, apart))
          )
      | inr n ↦ n
    ]

first-elsewhere : (k l : Kind) (steps : List StepName) → (place_of k == place_of l) ≡ false → list_all (is_of l) steps ≡ true → first_of k steps ≡ None
first-elsewhere k l [] apart all = refl
first-elsewhere k l (step ∷ steps) apart all =
    let parts = and_parts (is_of l step) (list_all (is_of l) steps) all in
    rw (differs k l step apart parts.0) (first-elsewhere k l steps apart parts.1)

abbrev has-kind : Kind → List Kind → Bool
has-kind k kinds = list_any (λ l. place_of k == place_of l) kinds

by-kind : (k : Kind) (steps : Kind → List StepName) (kinds : List Kind) → ((l : Kind) → list_all (is_of l) (steps l) ≡ true) → first_of k (flat_map steps kinds) ≡ (if has-kind k kinds then slice_get (steps k) 0 else None)
by-kind k steps [] each = refl
by-kind k steps (l ∷ kinds) each =
    let split : first_of k (steps l ++ flat_map steps kinds) ≡ option_or (first_of k (steps l)) (first_of k (flat_map steps kinds)) = find-append (is_of k) (steps l) (flat_map steps kinds) in
    let more = by-kind k steps kinds each in
    elim (cases_Bool (place_of k == place_of l)) [
      | inl y ↦ (
          let same = same-kind k l (eqb-true (place_of k) (place_of l) y) in
          let here : first_of k (steps l) ≡ slice_get (steps k) 0 = rw (← same) (first-here k (steps k) (each k)) in
          rw y (split ∙ rw (here, more) (kept (slice_get (steps k) 0) (has-kind k kinds)))
          )
      | inr n ↦ rw n (split ∙ rw (first-elsewhere k l (steps l) n (each l)) more)
    ]
  where
    kept : (o : Option StepName) (b : Bool) → option_or o (if b then o else None) ≡ o
    kept (Some x) b = refl
    kept None true = refl
    kept None false = refl

all-kinds : (k : Kind) → has-kind k all_kinds ≡ true
all-kinds kind.Send = refl
all-kinds kind.Release = refl
all-kinds kind.Signal = refl
all-kinds kind.Client = refl
all-kinds kind.DropQueued = refl
all-kinds kind.Fail = refl
all-kinds kind.ReturnFailed = refl
all-kinds kind.Shutter = refl
all-kinds kind.SensorDone = refl
all-kinds kind.Partial = refl
all-kinds kind.TakeFill = refl
all-kinds kind.FillDone = refl
all-kinds kind.Deliver = refl
all-kinds kind.Early = refl
all-kinds kind.Finish = refl

pub first_read : (script : Script) (p : Parts) (k : Kind) → first_of k (flat_map (ready_in script p) all_kinds) ≡ slice_get (ready_in script p k) 0
first_read script p k = by-kind k (ready_in script p) all_kinds (ready-steps script p) ∙ rw (all-kinds k) refl
