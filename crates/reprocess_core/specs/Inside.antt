use Rattle.std.specs.Prelude.{◌≡◌, ℕ, ◌≤◌, List, Option, true, is_some, length}
use Rattle.reprocess_model.specs.Plan.{requests}
use Rattle.reprocess_model.specs.Run.{steps as all_steps}
use Rattle.reprocess_model.specs.declared.step.ReStepName.{ReStepName}
use Rattle.reprocess_core.specs.State.{State}
use Rattle.reprocess_core.specs.Inputs.{ArePlaces}
use Rattle.reprocess_core.specs.declared.input.Place.{Place}

-- What holds of a device: its steps are the plan's, there is room for all that may be ready, the inputs are where the
-- past has them, the sensor's readout is there, and each of twelve output buffers has its memory.
pub record IsDevice (state : State) (all : List ReStepName) (capacity : ℕ)
    (inputs : List (Option Place)) (scratch : Option (List ℕ)) (outputs : List (Option (List ℕ))) : Type 0 where
  pub steps : all ≡ all_steps (length (requests state.plan.commands))
  pub room : length all ≤ capacity
  pub places : ArePlaces state.plan state.past inputs
  pub readout : is_some scratch ≡ true
  pub blocks : length outputs ≡ 12
