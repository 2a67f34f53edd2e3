-- How many steps may be ready at most.
use Rattle.std.proofs.Common.{arith, ◌≡◌, ◌≤◌, ◌+◌, ◌*◌, ℕ, Bool, true, false, List, [], ◌∷◌, refl, ap, filter, length, length-append, map}
use Rattle.std.specs.List.{flat_map, range_with_len}
use Rattle.std.proofs.lemmas.List.{length-map}
use Rattle.std.proofs.lemmas.List.Concat.{length-flat_map}
use Rattle.std.proofs.lemmas.List.FromFn.{length-map-range_with_len}
use Rattle.cam_types.proofs.Fours.{four-few}
use Rattle.cam_types.specs.Four.{four_list}
use Rattle.cam_types.specs.declared.number.FrameNo.{FrameNo}
use Rattle.cam_types.specs.declared.number.StreamIx.{StreamIx}
use Rattle.cam_types.specs.declared.row.RowView.{RowView}
use Rattle.cam_types.specs.declared.row.TargetView.{TargetView}
use Rattle.cam_types.specs.declared.script.Script.{Script}
use Rattle.run_model.specs.declared.step.Kind.TheVariants as kind
use Rattle.run_model.specs.declared.step.StepName.{StepName}
use Rattle.run_model.specs.declared.step.StepName.TheVariants.{Send, Release, Client, DropQueued, Fail, ReturnFailed, Shutter, SensorDone, Partial, TakeFill, FillDone, Deliver, Early, Finish}
use Rattle.service_core.specs.Candidates.{all_kinds, candidates_by, is_ready_by, ready_in, row_steps, target_steps}
use Rattle.service_core.proofs.ByKind.{kinds_of_candidates}
use Rattle.service_parts.specs.Parts.{Parts}
use Rattle.service_state.specs.Serving.{unsignalled}
use Rattle.service_core.proofs.Fences.{signal_count}

few : {X : Type 0} (q : X → Bool) (xs : List X) → length (filter q xs) ≤ length xs
few q [] = omega arith
few q (x ∷ xs) = by (q x) refl (few q xs)
  where
    by : (b : Bool) → q x ≡ b → length (filter q xs) ≤ length xs → length (filter q (x ∷ xs)) ≤ length (x ∷ xs)
    by true is rest = rw is (omega (arith, rest))
    by false is rest = rw is (omega (arith, rest))

rows : (q : StepName → Bool) (step : FrameNo → StepName) (rs : List RowView) → length (filter q (row_steps step rs)) ≤ length rs
rows q step rs =
    let passing = few q (row_steps step rs) in
    let each : length (row_steps step rs) ≡ length rs = length-map rs (λ (row : RowView). step row.frame) in
    omega (arith, passing, each)

targets-of : (step : FrameNo → StreamIx → StepName) (rs : List RowView) → length (target_steps step rs) ≤ 4 * length rs
targets-of step [] = omega arith
targets-of step (row ∷ rs) =
    let rest = targets-of step rs in
    let steps = map (λ (target : TargetView). step row.frame target.stream) (four_list row.targets) in
    let here : length steps ≡ length (four_list row.targets) = length-map (four_list row.targets) (λ (target : TargetView). step row.frame target.stream) in
    let most = four-few row.targets in
    let both : length (target_steps step (row ∷ rs)) ≡ length steps + length (target_steps step rs) = length-append steps (target_steps step rs) in
    omega (arith, rest, here, most, both)

targets : (q : StepName → Bool) (step : FrameNo → StreamIx → StepName) (rs : List RowView) → length (filter q (target_steps step rs)) ≤ 4 * length rs
targets q step rs =
    let passing = few q (target_steps step rs) in
    let each = targets-of step rs in
    omega (arith, passing, each)

releases : (script : Script) (p : Parts) → length (ready_in script p kind.Release) ≤ length p.buffers.places
releases script p =
    let step = λ (b : ℕ). Release (record { 0 = b }) in
    let passing = few (is_ready_by script p) (map step (range_with_len p.buffers.first (length p.buffers.places))) in
    let each = length-map-range_with_len step p.buffers.first (length p.buffers.places) in
    omega (arith, passing, each)

pub most : (script : Script) (p : Parts) → length (candidates_by script p) ≤ 4 + length p.buffers.places + length (unsignalled 0 p.buffers.signalled) + 27 * length p.rows
most script p =
    let q = is_ready_by script p in
    let all : length (candidates_by script p) ≡ length (flat_map (ready_in script p) all_kinds) = ap length (kinds_of_candidates script p) in
    let sum = length-flat_map (ready_in script p) all_kinds in
    let send = few q (Send ∷ []) in
    let client = few q (Client ∷ []) in
    let drop = few q (DropQueued ∷ []) in
    let shutter = few q (Shutter ∷ []) in
    let release = releases script p in
    let signal = signal_count script p in
    let fail = rows q Fail p.rows in
    let sensor = rows q SensorDone p.rows in
    let partial = rows q Partial p.rows in
    let failed = targets q ReturnFailed p.rows in
    let take = targets q TakeFill p.rows in
    let fill = targets q FillDone p.rows in
    let deliver = targets q Deliver p.rows in
    let early = targets q Early p.rows in
    let finish = targets q Finish p.rows in
    omega (arith, all, sum, send, client, drop, shutter, release, signal, fail, sensor, partial, failed, take, fill, deliver, early, finish)
