use Rattle.std.specs.Prelude.{◌≡◌, Bool, List, [], ◌∷◌, filter, is_some, length, map, if◌then◌else◌}
use Rattle.std.specs.List.{flat_map, range_with_len}
use Rattle.cam_types.specs.Four.{four_list}
use Rattle.cam_types.specs.declared.number.FrameNo.{FrameNo}
use Rattle.cam_types.specs.declared.number.StreamIx.{StreamIx}
use Rattle.cam_types.specs.declared.row.RowView.{RowView}
use Rattle.cam_types.specs.declared.script.Script.{Script}
use Rattle.run_model.specs.declared.step.Kind.{Kind}
use Rattle.run_model.specs.declared.step.Kind.TheVariants as kind
use Rattle.run_model.specs.declared.step.StepName.{StepName}
use Rattle.run_model.specs.declared.step.StepName.TheVariants.{Send, Release, Signal, Client, DropQueued, Fail, ReturnFailed, Shutter, SensorDone, Partial, TakeFill, FillDone, Deliver, Early, Finish}
use Rattle.service_parts.specs.Moves.{move_by}
use Rattle.service_parts.specs.Parts.{Parts}

-- The candidates, read from the parts of a service: of the frames those with a row are asked, of the buffers those of
-- the configuration. (The order is our own choice: that of kinds, and in a kind by frame and stream, by buffer, or by
-- fence.)

-- ---- the steps of each kind

-- every kind of step, in the order of candidates
abbrev pub all_kinds : List Kind
all_kinds =
    kind.Send
    ∷ (kind.Release
    ∷ (kind.Signal
    ∷ (kind.Client
    ∷ (kind.DropQueued
    ∷ (kind.Fail
    ∷ (kind.ReturnFailed
    ∷ (kind.Shutter
    ∷ (kind.SensorDone
    ∷ (kind.Partial
    ∷ (kind.TakeFill
    ∷ (kind.FillDone
    ∷ (kind.Deliver
    ∷ (kind.Early
    ∷ (kind.Finish
    ∷ []))))))))))))))

-- a step for each row, the oldest frame first
abbrev pub row_steps : (FrameNo → StepName) → List RowView → List StepName
row_steps step rows = map (λ row. step row.frame) rows

-- a step for each target of each row
abbrev pub target_steps : (FrameNo → StreamIx → StepName) → List RowView → List StepName
target_steps step rows = flat_map (λ row. map (λ target. step row.frame target.stream) (four_list row.targets)) rows

-- the steps of a kind that may be ready: a release for each of the configuration's buffers, a signal for each fence
-- that was released, and for each row and target what the device may do with it
abbrev pub steps_of_kind : Parts → Kind → List StepName
steps_of_kind p kind.Send = Send ∷ []
steps_of_kind p kind.Release =
    map (λ b. Release (record { 0 = b })) (range_with_len p.buffers.first (length p.buffers.places))
steps_of_kind p kind.Signal = map (λ f. Signal (record { 0 = f })) (range_with_len 0 (length p.buffers.signalled))
steps_of_kind p kind.Client = Client ∷ []
steps_of_kind p kind.DropQueued = DropQueued ∷ []
steps_of_kind p kind.Fail = row_steps Fail p.rows
steps_of_kind p kind.ReturnFailed = target_steps ReturnFailed p.rows
steps_of_kind p kind.Shutter = Shutter ∷ []
steps_of_kind p kind.SensorDone = row_steps SensorDone p.rows
steps_of_kind p kind.Partial = row_steps Partial p.rows
steps_of_kind p kind.TakeFill = target_steps TakeFill p.rows
steps_of_kind p kind.FillDone = target_steps FillDone p.rows
steps_of_kind p kind.Deliver = target_steps Deliver p.rows
steps_of_kind p kind.Early = target_steps Early p.rows
steps_of_kind p kind.Finish = target_steps Finish p.rows

-- every step that may be ready, in the order of kinds
abbrev pub steps_by : Parts → List StepName
steps_by p = flat_map (steps_of_kind p) all_kinds

-- ---- those that are ready

-- the step is ready
abbrev pub is_ready_by : Script → Parts → StepName → Bool
is_ready_by script p step = is_some (move_by script p step)

-- the candidates: the steps that are ready
abbrev pub candidates_by : Script → Parts → List StepName
candidates_by script p = filter (is_ready_by script p) (steps_by p)

-- the steps of a kind that are ready
abbrev pub ready_in : Script → Parts → Kind → List StepName
ready_in script p kind = filter (is_ready_by script p) (steps_of_kind p kind)

-- of the kind there is this one step where it is ready, and else none
abbrev pub IsSingle : Script → Parts → Kind → StepName → Type 0
IsSingle script p kind step = ready_in script p kind ≡ (if is_ready_by script p step then step ∷ [] else [])
