-- Each turn is a move: what a turn says of its seat's view, v before and w after. A view has the oldest move first, a
-- history the newest.
use Rattle.std.specs.Prelude.{◌≡◌, List, [], ◌∷◌, Option, Some, None, reverse, IsPermutation}
use mathlib.Core.List.{IsPrefix}
use Rattle.cam_types.specs.declared.job.FillTarget.{FillTarget}
use Rattle.cam_types.specs.declared.job.JobView.{JobView}
use Rattle.cam_types.specs.declared.script.Script.{Script}
use Rattle.trace_model.specs.declared.entry.Entry.{Entry}
use Rattle.run_model.specs.declared.step.Kind.TheVariants as kind
use Rattle.run_model.specs.declared.step.Move.{Move}
use Rattle.run_model.specs.declared.step.StepName.TheVariants.{SensorDone, FillDone}
use Rattle.run_model.specs.Jobs.{IsJobOut}
use Rattle.run_model.specs.Played.{candidates}
use Rattle.run_model.specs.Ready.{move_of}
use Rattle.run_model.specs.Run.{IsRun}
use Rattle.service_parts.specs.Outs.{Takes}
use Rattle.service_core.specs.Kinds.{first_of}
use Rattle.service_core.specs.declared.sensor.Shuttered.{Shuttered}
use Rattle.service_core.specs.declared.sensor.Shuttered.TheVariants.{Began, NotBegun}
use Rattle.turn_lock.specs.declared.view.View.{View}
use Rattle.shared_camera.specs.Choices.{Choice}
use Rattle.service_core.specs.declared.step.Step.{Step}
use Rattle.service_core.specs.declared.step.Step.TheVariants.{Did, NotReady}

-- the history that the seat has seen
abbrev pub history_in : View Script Move JobView → List Move
history_in v = reverse v.seen

-- the seat is the root, and every other seat was joined
abbrev pub IsAlone : View Script Move JobView → Type 0
IsAlone v = (v.number ≡ 0) × (v.others ≡ [])

-- every turn: the seat has seen a run of the script, which begins with all that it had seen
pub record IsTurn (script : Script) (v w : View Script Move JobView) : Type 0 where
  pub begins : IsPrefix v.seen w.seen
  pub run : IsRun script (history_in w)

-- what the seat has seen ends with this move, which was ready after the moves before it. These begin with all that the
-- seat had seen, and are just that where it is alone
pub record EndsWith (script : Script) (m : Move) (v w : View Script Move JobView) : Type 0 where
  pub before : List Move
  pub ends : history_in w ≡ m ∷ before
  pub made : move_of script before m.step ≡ Some m
  pub begins : IsPrefix v.seen (reverse before)
  pub alone : IsAlone v → reverse before ≡ v.seen

-- it ends with the move of the step that was chosen of those that were ready
pub record EndsWithChosen (script : Script) (choice : Choice) (m : Move) (v w : View Script Move JobView) : Type 0 where
  pub end : EndsWith script m v w
  pub chosen : choice (candidates script end.before) ≡ Some m.step

-- no such step is ready, and nothing was done
pub record StaysAt (script : Script) (choice : Choice) (v w : View Script Move JobView) : Type 0 where
  pub none : choice (candidates script (history_in w)) ≡ None
  pub alone : IsAlone v → w.seen ≡ v.seen
  pub jobs : IsPermutation w.jobs v.jobs

-- the chosen step was made, and added this entry
pub record DidChosen (script : Script) (choice : Choice) (e : Entry) (v w : View Script Move JobView) : Type 0 where
  pub move : Move
  pub entry : move.entry ≡ Some e
  pub end : EndsWithChosen script choice move v w

abbrev pub AnswersTurn : Script → Choice → View Script Move JobView → Step → View Script Move JobView → Type 0
AnswersTurn script choice v (Did e) w = DidChosen script choice e v w
AnswersTurn script choice v NotReady w = StaysAt script choice v w

-- the move took this job out, which is one of the seat's now
pub record HandsOut (script : Script) (m : Move) (job : JobView) (v w : View Script Move JobView) : Type 0 where
  pub takes : Takes m job
  pub out : IsJobOut script (history_in w) job
  pub jobs : IsPermutation w.jobs (job ∷ v.jobs)

-- the exposure that was due began, with this entry, and the sensor's job was handed out
pub record Exposes (script : Script) (e : Entry) (job : JobView) (v w : View Script Move JobView) : Type 0 where
  pub move : Move
  pub entry : move.entry ≡ Some e
  pub end : EndsWithChosen script (first_of kind.Shutter) move v w
  pub handed : HandsOut script move job v w
  pub exposure : job.fill ≡ None

abbrev pub AnswersShutterTurn : Script → View Script Move JobView → Shuttered → View Script Move JobView → Type 0
AnswersShutterTurn script v (Began e job) w = Exposes script e job v w
AnswersShutterTurn script v NotBegun w = StaysAt script (first_of kind.Shutter) v w

-- the first buffer that may be taken was taken, and the stage's job was handed out
pub record TakesBuffer (script : Script) (job : JobView) (v w : View Script Move JobView) : Type 0 where
  pub move : Move
  pub end : EndsWithChosen script (first_of kind.TakeFill) move v w
  pub handed : HandsOut script move job v w

abbrev pub AnswersTakeTurn : Script → View Script Move JobView → Option JobView → View Script Move JobView → Type 0
AnswersTakeTurn script v (Some job) w = TakesBuffer script job v w
AnswersTakeTurn script v None w = StaysAt script (first_of kind.TakeFill) v w

-- the move gives the job back: the sensor's by its end, a stage's by the end of its fill
abbrev pub GivesWith : Move → JobView → Option FillTarget → Type 0
GivesWith m job None = m.step ≡ SensorDone job.frame
GivesWith m job (Some target) = m.step ≡ FillDone job.frame target.stream

abbrev pub Gives : Move → JobView → Type 0
Gives m job = GivesWith m job job.fill

-- what the seat has seen ends with the move that gives the job back, which is one of the seat's no more
pub record GivesBack (script : Script) (job : JobView) (v w : View Script Move JobView) : Type 0 where
  pub move : Move
  pub gives : Gives move job
  pub end : EndsWith script move v w
  pub jobs : IsPermutation v.jobs (job ∷ w.jobs)
