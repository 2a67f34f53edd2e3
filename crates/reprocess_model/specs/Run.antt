use Rattle.std.specs.Prelude.{◌≡◌, ℕ, ◌%◌, ◌==◌, Bool, ◌&&◌, not, List, [], ◌∷◌, ◌++◌, Option, Some, None, is_some, filter, map, length, slice_get, unwrap_or, IsTrue}
use Rattle.std.specs.List.{flat_map, range_with_len}
use Rattle.cam_types.specs.declared.number.FrameNo.{FrameNo}
use Rattle.cam_types.specs.declared.number.StreamIx.{StreamIx}
use Rattle.reprocess_model.specs.declared.entry.ReEntry.{ReEntry}
use Rattle.reprocess_model.specs.declared.plan.Plan.{Plan}
use Rattle.reprocess_model.specs.declared.step.ReStepName.{ReStepName}
use Rattle.reprocess_model.specs.declared.step.ReStepName.TheVariants.{TakeNext, Client, DropNext, Fail, ReturnFailed, ReturnFilled, ReturnInput}
use Rattle.reprocess_model.specs.Due.{due, step_of}
use Rattle.reprocess_model.specs.Past.{call_count, least_queued, all_inputs_home, all_outputs_home}
use Rattle.reprocess_model.specs.Plan.{requests}

-- Runs of a reprocessing device. (Our own choice.)

-- the lines are a run so far: each is the one that was due of its step
abbrev pub IsRun : Plan → List ReEntry → Type 0
IsRun plan [] = Unit {0}
IsRun plan (e ∷ past) = (due plan past (step_of e) ≡ Some e) × IsRun plan past

-- every command is answered, nothing waits, and all buffers are home
abbrev pub is_complete : Plan → List ReEntry → Bool
is_complete plan past =
    (call_count past == length plan.commands)
    && (not (is_some (least_queued past)) && (all_inputs_home past && all_outputs_home past))

-- a step for each request of the plan
abbrev pub for_requests : (FrameNo → ReStepName) → ℕ → List ReStepName
for_requests step count = map (λ n. step (record { 0 = n })) (range_with_len 0 count)

-- a step for each request and output: a step of an output that isn't there is never ready
abbrev pub for_outputs : (FrameNo → StreamIx → ReStepName) → ℕ → List ReStepName
for_outputs step count =
    flat_map (λ n. map (λ s. step (record { 0 = n }) (record { 0 = s })) (range_with_len 0 3)) (range_with_len 0 count)

-- all steps that could be ready, in the order of candidates
abbrev pub steps : ℕ → List ReStepName
steps count =
    (TakeNext ∷ (Client ∷ (DropNext ∷ [])))
    ++ (for_requests Fail count
    ++ (for_outputs ReturnFailed count
    ++ (for_outputs ReturnFilled count
    ++ for_requests ReturnInput count)))

abbrev pub is_ready : Plan → List ReEntry → ReStepName → Bool
is_ready plan past step = is_some (due plan past step)

-- the candidates: the steps that are ready
abbrev pub candidates : Plan → List ReEntry → List ReStepName
candidates plan past = filter (is_ready plan past) (steps (length (requests plan.commands)))

-- the step that a pick chooses
abbrev pub chosen : Plan → List ReEntry → ℕ → Option ReStepName
chosen plan past pick = slice_get (candidates plan past) (pick % length (candidates plan past))

abbrev pub line_of : Plan → List ReEntry → Option ReStepName → Option ReEntry
line_of plan past (Some step) = due plan past step
line_of plan past None = None

-- the line that a pick chooses
abbrev pub chosen_line : Plan → List ReEntry → ℕ → Option ReEntry
chosen_line plan past pick = line_of plan past (chosen plan past pick)

-- pick number j of the plan, and 0 where there is none
abbrev pub pick_at : Plan → ℕ → ℕ
pick_at plan j = unwrap_or (slice_get plan.picks j) 0

-- the lines were chosen by the picks, and none stands after a complete run
abbrev pub IsPlayed : Plan → List ReEntry → Type 0
IsPlayed plan [] = Unit {0}
IsPlayed plan (e ∷ past) =
    (IsTrue (not (is_complete plan past)) × (chosen_line plan past (pick_at plan (length past)) ≡ Some e))
    × IsPlayed plan past

-- the complete run that the picks choose
pub record IsPlayedRun (plan : Plan) (past : List ReEntry) : Type 0 where
  pub played : IsPlayed plan past
  pub complete : IsTrue (is_complete plan past)
