-- Moves that are added one by one.
use Rattle.std.proofs.Common.{◌≡◌, ℕ, ◌+◌, ◌≤◌, List, ◌∷◌, ◌++◌, Some, ap, ◌∙◌, arith, length, slice_get, subst, IsTrue}
use Rattle.std.proofs.Math.Nat.{zero-mod}
use Rattle.std.proofs.lemmas.List.{length-append}
use Rattle.cam_types.specs.Script.{is_valid}
use Rattle.run_model.specs.declared.step.Move.{Move}
use Rattle.run_model.specs.declared.step.StepName.{StepName}
use Rattle.run_model.specs.Bounds.{move_bound}
use Rattle.run_model.specs.History.{trace_of}
use Rattle.run_model.specs.Played.{candidates, move_at}
use Rattle.run_model.specs.Ready.{move_of}
use Rattle.trace_model.specs.Complete.{IsComplete}
use Rattle.run_model.proofs.Few.{few}
use Rattle.run_model.specs.State.{State}
use Rattle.service_core.specs.Answers.{after}
use Rattle.settle.specs.Stepping.{AreFirst, MakesPicked}

-- so many moves were added to a history, each of the first candidate
pub record Adds (old new : State) (count : ℕ) : Type 0 where
  pub moves : List Move
  pub many : length moves ≡ count
  pub left : new ≡ record { script = old.script; history = moves ++ old.history }
  pub first : AreFirst old.script moves old.history

-- the move is of the first candidate of a run that isn't complete
abbrev IsFirst : State → Move → Type 0
IsFirst s m =
    (¬ IsComplete s.script (trace_of s.history)) × (move_at s.script s.history (slice_get (candidates s.script s.history) 0) ≡ Some m)

-- the candidate of pick 0 is the first
first-made : (now new : State) (step : StepName) (made : MakesPicked now new 0 step) → IsFirst now made.made.move
first-made now new step made =
    let first : slice_get (candidates now.script now.history) 0 ≡ Some step = subst (λ i. slice_get (candidates now.script now.history) i ≡ Some step) (zero-mod (length (candidates now.script now.history))) made.picked in
    let moved : move_of now.script now.history step ≡ Some made.made.move = subst (λ name. move_of now.script now.history name ≡ Some made.made.move) made.made.of made.made.made.ready in
    (made.going, ap (move_at now.script now.history) first ∙ moved)

pub one_added : (old now new : State) (count : ℕ) (step : StepName) → Adds old now count → MakesPicked now new 0 step → Adds old new (count + 1)
one_added old now new count step added made =
    let first = subst (λ s. IsFirst s made.made.move) added.left (first-made now new step made) in
    record {
      moves = made.made.move ∷ added.moves;
      many = omega (arith, added.many);
      left = made.made.made.left ∙ ap (after made.made.move) added.left;
      first = (first.0, first.1, added.first);
    }

-- no more than a run has
pub few_added : (old new : State) (count : ℕ) → Adds old new count → length new.history ≤ move_bound new.script → IsTrue (is_valid new.script) → count ≤ 2102275
few_added old new count added few' valid =
    let all : length new.history ≡ length (added.moves ++ old.history) = ap (λ (s : State). length s.history) added.left in
    let both = length-append added.moves old.history in
    let small = few new.script valid in
    omega (arith, all, both, added.many, few', small.frames, small.commands)
