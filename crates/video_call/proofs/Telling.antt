-- What `video` and `picture` tell of an input.
use Rattle.std.proofs.Common.{◌≡◌, ℕ, ◌≤◌, List, Result, Ok, Err, sym, subst, arith, inl, inr}
use Rattle.io_edge.specs.States.{SinkState}
use Rattle.call_parts.specs.Answers.{AreAnswers, TellsBy}
use Rattle.cam_types.specs.declared.script.Script.{Script}
use Rattle.run_model.specs.History.{trace_of}
use Rattle.video_call.specs.declared.choice.NoFilm.{NoFilm}
use Rattle.video_call.specs.Chosen.{IsOfRun, chosen_file}
use Rattle.video_call.specs.Shows.{ShowsFile, ShowsRun, file_of}
use Rattle.video_call.specs.declared.chosen.Chosen.{Chosen}
use Rattle.video_call.specs.declared.wanted.Wanted.{Wanted}

-- what is told of what was taken is told of the script's run
pub run-told : (wanted : Wanted) (script : Script) (chosen : Chosen) (status : ℕ) (before after : SinkState) → IsOfRun wanted script chosen → TellsBy (ShowsFile wanted (chosen_file chosen)) status before after → TellsBy (ShowsRun wanted script) status before after
run-told wanted script chosen status before after of (inl h) = inl h
run-told wanted script chosen status before after of (inr (number, text, shows, h)) =
    inr (number, text, record { history = of.history; run = of.run; shows = subst (λ (r : Result (List ℕ) NoFilm). ShowsFile wanted r number text) (sym of.is) shows }, h)

-- the status that belongs to a script is 0 or 1
file-few : (wanted : Wanted) (r : Result (List ℕ) NoFilm) (status : ℕ) (text : List ℕ) → ShowsFile wanted r status text → status ≤ 1
file-few wanted (Ok file) status text h = omega (arith, h.0)
file-few wanted (Err cause) status text h = omega (arith, h.0)

pub are_shown : (wanted : Wanted) (script : Script) → AreAnswers (ShowsRun wanted script)
are_shown wanted script number text h = file-few wanted (file_of wanted script (trace_of h.history)) number text h.shows
