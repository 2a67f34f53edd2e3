use Rattle.std.specs.Prelude.{◌≡◌, ℕ, ◌≤◌, List, ◌∷◌, true, reverse}
use Rattle.reprocess_model.specs.declared.entry.ReEntry.{ReEntry}
use Rattle.reprocess_model.specs.declared.plan.Plan.{Plan}
use Rattle.reprocess_model.specs.Laws.{line_bound}
use Rattle.reprocess_model.specs.Plan.{is_plan}
use Rattle.reprocess_model.specs.Run.{IsRun}

-- What a contract sees of a run: its plan, and the lines so far, the newest first.
pub record State : Type 0 where
  pub plan : Plan
  pub past : List ReEntry

abbrev pub with_line : ReEntry → State → State
with_line e state = record { plan = state.plan; past = e ∷ state.past }

-- the plan is within its limits, the lines are a run of it, and there is room for all that it can have
pub record IsCourse (plan : Plan) (lines : List ReEntry) (capacity : ℕ) : Type 0 where
  pub valid : is_plan plan ≡ true
  pub run : IsRun plan (reverse lines)
  pub room : line_bound plan ≤ capacity
