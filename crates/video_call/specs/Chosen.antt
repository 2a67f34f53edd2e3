-- What is taken from a trace before anything is written.
use Rattle.std.specs.Prelude.{◌≡◌, Bool, true, List, Result, Ok, Err, ℕ}
use Rattle.cam_types.specs.declared.script.Script.{Script}
use Rattle.run_model.specs.History.{trace_of}
use Rattle.run_model.specs.Played.{IsPlayedRun}
use Rattle.run_model.specs.declared.step.Move.{Move}
use Rattle.video_call.specs.Choice.{film_or_none, shot_or_none}
use Rattle.video_call.specs.declared.choice.NoFilm.{NoFilm}
use Rattle.trace_model.specs.declared.entry.Entry.{Entry}
use Rattle.video_call.specs.declared.chosen.Chosen.{Chosen}
use Rattle.video_call.specs.declared.chosen.Chosen.TheVariants.{Film, Picture, Nothing}
use Rattle.video_call.specs.declared.wanted.Wanted.{Wanted}
use Rattle.video_call.specs.declared.wanted.Wanted.TheVariants.{Film as WantedFilm, Picture as WantedPicture}
use Rattle.video_call.specs.Drawing.{are_drawable, is_drawable}
use Rattle.video_call.specs.Shows.{file_of, film_text, picture_text}

-- the file of what was taken, or why there is none
abbrev pub chosen_file : Chosen → Result (List ℕ) NoFilm
chosen_file (Film shots) = Ok (film_text shots.items)
chosen_file (Picture shot) = Ok (picture_text shot)
chosen_file (Nothing cause) = Err cause

abbrev pub can_draw : Chosen → Bool
can_draw (Film shots) = are_drawable shots.items
can_draw (Picture shot) = is_drawable shot
can_draw (Nothing cause) = true

-- it is what the trace has of what is wanted
abbrev pub IsChosenOf : Wanted → Script → List Entry → Chosen → Type 0
IsChosenOf (WantedFilm s) script trace (Film shots) = film_or_none script s.0 trace ≡ Ok shots.items
IsChosenOf (WantedFilm s) script trace (Nothing cause) = film_or_none script s.0 trace ≡ Err cause
IsChosenOf (WantedPicture n s) script trace (Picture shot) = shot_or_none script n.0 s.0 trace ≡ Ok shot
IsChosenOf (WantedPicture n s) script trace (Nothing cause) = shot_or_none script n.0 s.0 trace ≡ Err cause
IsChosenOf _ script trace _ = ⊥

-- its file is the one that is wanted of the script's played run
pub record IsOfRun (wanted : Wanted) (script : Script) (chosen : Chosen) : Type 0 where
  pub history : List Move
  pub run : IsPlayedRun script history
  pub is : file_of wanted script (trace_of history) ≡ chosen_file chosen
