-- A turn: from what the seat learns as it enters, and what the service makes, what may be left, and what the seat has then.
-- v is the seat's view before `enter`, w its view between, x its view after `leave`. The service was `old`, and became `new`.
use Rattle.std.proofs.Common.{◌≡◌, ◌↔◌, Bool, false, true, IsTrue, List, [], ◌∷◌, ◌++◌, Option, Some, None, reverse, refl, sym, ap, ◌∙◌, subst, Contains, IsPermutation}
use Rattle.std.proofs.lemmas.List.{reverse-append, reverse-reverse}
use Rattle.std.proofs.lemmas.List.Elements.{Contains-append_left}
use Rattle.std.proofs.lemmas.List.Sorted.{Contains-permutation, IsPermutation-refl, IsPermutation-sym}
use mathlib.Core.List.{IsPrefix}
use Rattle.cam_types.specs.declared.job.JobView.{JobView}
use Rattle.cam_types.specs.declared.script.Script.{Script}
use Rattle.run_model.specs.declared.step.Kind.{Kind}
use Rattle.run_model.specs.declared.step.Kind.TheVariants as kind
use Rattle.run_model.specs.declared.step.Move.{Move}
use Rattle.run_model.specs.declared.step.StepName.TheVariants.{Shutter}
use Rattle.trace_model.specs.Complete.{IsComplete}
use Rattle.run_model.specs.History.{trace_of}
use Rattle.run_model.specs.Jobs.{IsJobOut}
use Rattle.run_model.specs.Played.{candidates}
use Rattle.run_model.specs.Ready.{move_of}
use Rattle.run_model.specs.Run.{IsRun}
use Rattle.run_model.specs.State.{State}
use Rattle.service_parts.specs.Outs.{moves_a_job, takes_a_job}
use Rattle.service_core.specs.Kinds.{first_of}
use Rattle.service_core.specs.Answers.{Makes, after}
use Rattle.service_core.specs.declared.sensor.Shuttered.{Shuttered}
use Rattle.service_core.specs.declared.sensor.Shuttered.TheVariants.{Began, NotBegun}
use Rattle.service_core.specs.declared.step.Step.{Step}
use Rattle.service_core.specs.declared.step.Step.TheVariants.{Did, NotReady}
use Rattle.turn_lock.specs.declared.view.View.{View}
use Rattle.turn_lock.specs.Turns.{Enters, MayLeave, Leaves}
use Rattle.turn_lock.proofs.Beginnings.{begins_itself, begins_through}
use Rattle.turn_lock.proofs.ForCallers.{may_leave, may_leave_with, may_leave_without, own_jobs, own_jobs_with, own_jobs_without}
use Rattle.shared_camera.specs.declared.camera.Camera.{Camera}
use Rattle.shared_camera.specs.JobsOut.{jobs_out}
use Rattle.shared_camera.specs.Cameras.{script_of, moves_of, jobs_of}
use Rattle.shared_camera.specs.Turns.{AnswersShutterTurn, AnswersTakeTurn, AnswersTurn, EndsWith, EndsWithChosen, Gives, GivesBack, HandsOut, IsAlone, IsTurn, StaysAt, history_in}
use Rattle.shared_camera.specs.Choices.{Choice, first_of_kinds}
use Rattle.shared_camera.specs.Moves.{AnswersChoice, AnswersExposure, AnswersFilling, Lends, MakesChosen, Returns, Waits, are_alone}
use Rattle.shared_camera.proofs.Firsts.{chosen-alone, first-of-kind, is-shutter, is-taking}
use Rattle.shared_camera.proofs.Outs.{contained-out, one-fewer, one-more, same-jobs}

abbrev camera : State → Camera
camera s = record { service = s }

-- ---- one move more

more-begins : (m : Move) (h : List Move) → IsPrefix (reverse h) (reverse (m ∷ h))
more-begins m h = (m ∷ [], sym (reverse-append (m ∷ []) h))

-- ---- what may be left

module _ (start : Script) (v w : View Script Move JobView) (old new : State) (entered : Enters script_of moves_of jobs_of start v (camera old) w) where
  made-script : (m : Move) → Makes m old new → new.script ≡ old.script
  made-script m made = ap (λ (s : State). s.script) made.left

  made-begins : (m : Move) → Makes m old new → IsPrefix (moves_of (camera old)) (moves_of (camera new))
  made-begins m made = subst (λ (s : State). IsPrefix (reverse old.history) (reverse s.history)) (sym made.left) (more-begins m old.history)

  made-jobs : (m : Move) → Makes m old new → jobs_of (camera new) ≡ jobs_out old.script (m ∷ old.history)
  made-jobs m made = ap (λ (s : State). jobs_out s.script s.history) made.left

  made-run : (m : Move) → Makes m old new → IsRun new.script new.history → IsRun old.script (m ∷ old.history)
  made-run m made run = subst (λ (s : State). IsRun s.script s.history) made.left run

  still-begins : new ≡ old → IsPrefix (moves_of (camera old)) (moves_of (camera new))
  still-begins same = subst (λ (s : State). IsPrefix (reverse old.history) (reverse s.history)) (sym same) (begins_itself (reverse old.history))

  pub may-stay : new ≡ old → MayLeave script_of moves_of jobs_of start w (camera new)
  may-stay same = may_leave script_of moves_of jobs_of start v w (camera old) (camera new) entered (ap (λ (s : State). s.script) same) (still-begins same) (ap (λ (s : State). jobs_out s.script s.history) same)

  -- a move of no job
  alone-jobs : (m : Move) → Makes m old new → moves_a_job m.step ≡ false → jobs_of (camera new) ≡ jobs_of (camera old)
  alone-jobs m made idle = made-jobs m made ∙ same-jobs old.script m old.history idle

  may-move : (m : Move) → Makes m old new → moves_a_job m.step ≡ false → MayLeave script_of moves_of jobs_of start w (camera new)
  may-move m made idle = may_leave script_of moves_of jobs_of start v w (camera old) (camera new) entered (made-script m made) (made-begins m made) (alone-jobs m made idle)

  -- a move that takes a job
  more-jobs : (m : Move) (job : JobView) → Makes m old new → IsRun new.script new.history → takes_a_job m.step ≡ true → Lends m job new
      → (IsPermutation (job ∷ jobs_of (camera old)) (jobs_of (camera new))) × (Contains (jobs_of (camera old)) job → ⊥)
  more-jobs m job made run does lends =
      let out : IsJobOut old.script (m ∷ old.history) job = subst (λ (s : State). IsJobOut s.script s.history job) made.left lends.out in
      let more = one-more old.script m old.history job does (made-run m made run) lends.takes out in
      (subst (λ (js : List JobView). IsPermutation (job ∷ jobs_of (camera old)) js) (sym (made-jobs m made ∙ more.0)) (IsPermutation-refl (job ∷ jobs_of (camera old))), more.1)

  may-lend : (m : Move) (job : JobView) → Makes m old new → IsRun new.script new.history → takes_a_job m.step ≡ true → Lends m job new → MayLeave script_of moves_of jobs_of start w (camera new)
  may-lend m job made run does lends =
      let more = more-jobs m job made run does lends in
      may_leave_with script_of moves_of jobs_of start v w (camera old) (camera new) entered (made-script m made) (made-begins m made) job more.0 more.1

  -- a job of the seat is out
  pub own-contained : (job : JobView) → Contains v.jobs job → Contains (jobs_of (camera old)) job
  own-contained job mine =
      Contains-permutation (v.jobs ++ w.rest) (jobs_of (camera old)) job (IsPermutation-sym (jobs_of (camera old)) (v.jobs ++ w.rest) entered.parts) (Contains-append_left v.jobs w.rest job mine)

  pub own-out : (job : JobView) → Contains v.jobs job → IsRun old.script old.history → IsJobOut old.script old.history job
  own-out job mine run = contained-out old.script old.history job run (own-contained job mine)

  -- a move that gives one back
  fewer-jobs : (m : Move) (job : JobView) → Makes m old new → IsRun new.script new.history → Gives m job → Contains v.jobs job → IsPermutation (jobs_of (camera old)) (job ∷ jobs_of (camera new))
  fewer-jobs m job made run gives mine =
      subst (λ (js : List JobView). IsPermutation (jobs_of (camera old)) (job ∷ js)) (sym (made-jobs m made)) (one-fewer old.script m old.history job (made-run m made run).1 gives (own-contained job mine))

  pub may-return : (job : JobView) → Returns job old new → IsRun new.script new.history → Contains v.jobs job → MayLeave script_of moves_of jobs_of start w (camera new)
  may-return job r run mine =
      may_leave_without script_of moves_of jobs_of start v w (camera old) (camera new) entered (made-script r.move r.made) (made-begins r.move r.made) job (fewer-jobs r.move job r.made run r.gives mine) mine

  -- by what the turn answers
  idle-move : (kinds : List Kind) (m : Move) → are_alone kinds ≡ true → MakesChosen (first_of_kinds kinds) m old new → moves_a_job m.step ≡ false
  idle-move kinds m alone made = chosen-alone kinds old.script old.history m.step alone made.chosen

  pub may-leave-chosen : (kinds : List Kind) (answer : Step) → are_alone kinds ≡ true → AnswersChoice (first_of_kinds kinds) old answer new → MayLeave script_of moves_of jobs_of start w (camera new)
  may-leave-chosen kinds (Did e) alone told = may-move told.move told.chosen.made (idle-move kinds told.move alone told.chosen)
  may-leave-chosen kinds NotReady alone told = may-stay told.same

  shutter-takes : (m : Move) → MakesChosen (first_of kind.Shutter) m old new → takes_a_job m.step ≡ true
  shutter-takes m made = ap takes_a_job (is-shutter m.step (first-of-kind old.script old.history kind.Shutter m.step made.chosen))

  taking-takes : (m : Move) → MakesChosen (first_of kind.TakeFill) m old new → takes_a_job m.step ≡ true
  taking-takes m made = is-taking m.step (first-of-kind old.script old.history kind.TakeFill m.step made.chosen)

  pub may-leave-exposure : (answer : Shuttered) → AnswersExposure old answer new → IsRun new.script new.history → MayLeave script_of moves_of jobs_of start w (camera new)
  may-leave-exposure (Began e job) told run = may-lend told.move job told.chosen.made run (shutter-takes told.move told.chosen) told.lends
  may-leave-exposure NotBegun told run = may-stay told.same

  pub may-leave-filling : (answer : Option JobView) → AnswersFilling old answer new → IsRun new.script new.history → MayLeave script_of moves_of jobs_of start w (camera new)
  may-leave-filling (Some job) told run = may-lend told.move job told.chosen.made run (taking-takes told.move told.chosen) told.lends
  may-leave-filling None told run = may-stay told.same

  -- ---- what the seat has then

  module _ (x : View Script Move JobView) (leaves : Leaves moves_of jobs_of w (camera new) x) where
    saw : x.seen ≡ reverse new.history
    saw = ap (λ (u : View Script Move JobView). u.seen) leaves.is

    saw-history : history_in x ≡ new.history
    saw-history = ap reverse saw ∙ reverse-reverse new.history

    turned : new.script ≡ old.script → IsPrefix (moves_of (camera old)) (moves_of (camera new)) → IsRun new.script new.history → IsTurn start v x
    turned same begins run = record {
      begins = subst (λ (ms : List Move). IsPrefix v.seen ms) (sym saw) (begins_through v.seen (moves_of (camera old)) (moves_of (camera new)) entered.begins begins);
      run = subst (λ (h : List Move). IsRun start h) (sym saw-history) (subst (λ (s : Script). IsRun s new.history) (same ∙ entered.same) run);
    }

    abbrev ended : (m : Move) → Makes m old new → EndsWith start m v x
    ended m made = record {
      before = old.history;
      ends = saw-history ∙ ap (λ (s : State). s.history) made.left;
      made = subst (λ (s : Script). move_of s old.history m.step ≡ Some m) entered.same made.ready;
      begins = entered.begins;
      alone = λ a. (entered.alone a.0 a.1).0;
    }

    ended-chosen : (choice : Choice) (m : Move) → MakesChosen choice m old new → EndsWithChosen start choice m v x
    ended-chosen choice m made = record { end = ended m made.made; chosen = subst (λ (s : Script). choice (candidates s old.history) ≡ Some m.step) entered.same made.chosen }

    -- where nothing was made
    pub turned-still : new ≡ old → IsRun new.script new.history → IsTurn start v x
    turned-still same run = turned (ap (λ (s : State). s.script) same) (still-begins same) run

    pub seen-still : new ≡ old → IsAlone v → x.seen ≡ v.seen
    seen-still same a = saw ∙ (ap (λ (s : State). reverse s.history) same ∙ (entered.alone a.0 a.1).0)

    pub jobs-still : new ≡ old → IsPermutation x.jobs v.jobs
    jobs-still same = own_jobs script_of moves_of jobs_of start v w (camera old) (camera new) entered (ap (λ (s : State). s.script) same) (still-begins same) x leaves (ap (λ (s : State). jobs_out s.script s.history) same)

    pub done-still : (done : Bool) → new ≡ old → IsTrue done ↔ IsComplete new.script (trace_of new.history) → IsTrue done ↔ IsComplete start (trace_of (history_in x))
    done-still done same is =
        subst (λ (h : List Move). IsTrue done ↔ IsComplete start (trace_of h)) (sym saw-history)
        (subst (λ (s : Script). IsTrue done ↔ IsComplete s (trace_of new.history)) (ap (λ (s : State). s.script) same ∙ entered.same) is)

    stayed : (choice : Choice) → Waits choice old new → StaysAt start choice v x
    stayed choice waits = record {
      none = subst (λ (h : List Move). choice (candidates start h) ≡ None) (sym (saw-history ∙ ap (λ (s : State). s.history) waits.same))
          (subst (λ (s : Script). choice (candidates s old.history) ≡ None) entered.same waits.none);
      alone = seen-still waits.same;
      jobs = jobs-still waits.same;
    }

    handed-out : (m : Move) (job : JobView) → Makes m old new → IsRun new.script new.history → takes_a_job m.step ≡ true → Lends m job new → HandsOut start m job v x
    handed-out m job made run does lends = record {
      takes = lends.takes;
      out = subst (λ (h : List Move). IsJobOut start h job) (sym saw-history) (subst (λ (s : Script). IsJobOut s new.history job) (made-script m made ∙ entered.same) lends.out);
      jobs = own_jobs_with script_of moves_of jobs_of start v w (camera old) (camera new) entered (made-script m made) (made-begins m made) x job leaves (more-jobs m job made run does lends).0;
    }

    -- by what the turn answers
    pub turned-chosen : (choice : Choice) (answer : Step) → AnswersChoice choice old answer new → IsRun new.script new.history → IsTurn start v x
    turned-chosen choice (Did e) told run = turned (made-script told.move told.chosen.made) (made-begins told.move told.chosen.made) run
    turned-chosen choice NotReady told run = turned (ap (λ (s : State). s.script) told.same) (still-begins told.same) run

    pub answered-chosen : (choice : Choice) (answer : Step) → AnswersChoice choice old answer new → AnswersTurn start choice v answer x
    answered-chosen choice (Did e) told = record { move = told.move; entry = told.entry; end = ended-chosen choice told.move told.chosen }
    answered-chosen choice NotReady told = stayed choice told

    pub jobs-chosen : (kinds : List Kind) (answer : Step) → are_alone kinds ≡ true → AnswersChoice (first_of_kinds kinds) old answer new → IsPermutation x.jobs v.jobs
    jobs-chosen kinds (Did e) alone told =
        own_jobs script_of moves_of jobs_of start v w (camera old) (camera new) entered (made-script told.move told.chosen.made) (made-begins told.move told.chosen.made) x leaves
        (alone-jobs told.move told.chosen.made (idle-move kinds told.move alone told.chosen))
    jobs-chosen kinds NotReady alone told = jobs-still told.same

    pub turned-exposure : (answer : Shuttered) → AnswersExposure old answer new → IsRun new.script new.history → IsTurn start v x
    turned-exposure (Began e job) told run = turned (made-script told.move told.chosen.made) (made-begins told.move told.chosen.made) run
    turned-exposure NotBegun told run = turned (ap (λ (s : State). s.script) told.same) (still-begins told.same) run

    pub answered-exposure : (answer : Shuttered) → AnswersExposure old answer new → IsRun new.script new.history → AnswersShutterTurn start v answer x
    answered-exposure (Began e job) told run = record {
      move = told.move;
      entry = told.entry;
      end = ended-chosen (first_of kind.Shutter) told.move told.chosen;
      handed = handed-out told.move job told.chosen.made run (shutter-takes told.move told.chosen) told.lends;
      exposure = told.exposure;
    }
    answered-exposure NotBegun told run = stayed (first_of kind.Shutter) told

    pub turned-filling : (answer : Option JobView) → AnswersFilling old answer new → IsRun new.script new.history → IsTurn start v x
    turned-filling (Some job) told run = turned (made-script told.move told.chosen.made) (made-begins told.move told.chosen.made) run
    turned-filling None told run = turned (ap (λ (s : State). s.script) told.same) (still-begins told.same) run

    pub answered-filling : (answer : Option JobView) → AnswersFilling old answer new → IsRun new.script new.history → AnswersTakeTurn start v answer x
    answered-filling (Some job) told run = record {
      move = told.move;
      end = ended-chosen (first_of kind.TakeFill) told.move told.chosen;
      handed = handed-out told.move job told.chosen.made run (taking-takes told.move told.chosen) told.lends;
    }
    answered-filling None told run = stayed (first_of kind.TakeFill) told

    pub turned-return : (job : JobView) → Returns job old new → IsRun new.script new.history → IsTurn start v x
    turned-return job r run = turned (made-script r.move r.made) (made-begins r.move r.made) run

    pub given-back : (job : JobView) → Returns job old new → IsRun new.script new.history → Contains v.jobs job → GivesBack start job v x
    given-back job r run mine = record {
      move = r.move;
      gives = r.gives;
      end = ended r.move r.made;
      jobs = own_jobs_without script_of moves_of jobs_of start v w (camera old) (camera new) entered (made-script r.move r.made) (made-begins r.move r.made) x job leaves (fewer-jobs r.move job r.made run r.gives mine) mine;
    }
