-- What `reprocess` answers and writes. (docs/FORMATS.md, reprocessing)
use Rattle.std.specs.Prelude.{◌≡◌, ℕ, List, Ok, reverse}
use Rattle.io_edge.specs.States.{SinkState, Writes}
use Rattle.call_parts.specs.Answers.{Answers}
use Rattle.call_parts.specs.Reading.{OfText}
use Rattle.reprocess_model.specs.Run.{IsPlayedRun, IsRun}
use Rattle.reprocess_model.specs.declared.entry.ReEntry.{ReEntry}
use Rattle.reprocess_model.specs.declared.plan.Plan.{Plan}
use Rattle.reprocess_call.specs.Grammar.{plan_of, plan_text}
use Rattle.reprocess_call.specs.Lines.{run_text}

-- the complete run that a plan's picks choose
pub record IsWholeRun (plan : Plan) (past : List ReEntry) : Type 0 where
  pub chosen : IsPlayedRun plan past
  pub legal : IsRun plan past

-- the text is that of the plan's run
pub record IsRunText (plan : Plan) (told : List ℕ) : Type 0 where
  pub past : List ReEntry
  pub run : IsWholeRun plan past
  pub shown : told ≡ run_text (reverse past)

-- the whole text of the plan's run is written, or the status is 4 and the sink failed: nothing else is answered
pub record PlaysPlan (plan : Plan) (status : ℕ) (before after : SinkState) : Type 0 where
  pub past : List ReEntry
  pub run : IsWholeRun plan past
  pub answers : Answers 0 (run_text (reverse past)) status before after

-- the status and the whole text that belong to an input
abbrev pub Reprocesses : List ℕ → ℕ → List ℕ → Type 0
Reprocesses input status told = OfText plan_text IsRunText input status told

-- the input is a plan's text, and what was written is the complete run that the plan's picks choose
pub record IsReprocessed (input : List ℕ) (before after : SinkState) : Type 0 where
  pub plan : Plan
  pub meaning : plan_of input ≡ Ok plan
  pub past : List ReEntry
  pub run : IsWholeRun plan past
  pub written : Writes before after (run_text (reverse past))
