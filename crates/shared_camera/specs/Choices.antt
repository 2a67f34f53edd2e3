-- Which of the steps that are ready a turn makes. (Our own choice.)
use Rattle.std.specs.Prelude.{List, [], ◌∷◌, Option, Some, None}
use Rattle.run_model.specs.declared.step.Kind.{Kind}
use Rattle.run_model.specs.declared.step.StepName.{StepName}
use Rattle.service_core.specs.Kinds.{first_of}

-- a choice among the steps that are ready
abbrev pub Choice : Type 0
Choice = List StepName → Option StepName

abbrev pub or_step : Option StepName → Option StepName → Option StepName
or_step (Some step) other = Some step
or_step None other = other

-- the first of these steps that is of the first of these kinds of which there is one
abbrev pub first_of_kinds : List Kind → Choice
first_of_kinds [] steps = None
first_of_kinds (k ∷ kinds) steps = or_step (first_of k steps) (first_of_kinds kinds steps)
