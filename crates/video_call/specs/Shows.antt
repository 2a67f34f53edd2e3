-- What `video` and `picture` answer and write. (docs/FORMATS.md, Pictures and films)
use Rattle.std.specs.Prelude.{◌≡◌, ℕ, List, [], ◌∷◌, ◌++◌, Result, Ok, Err, codes, decimal, map}
use Rattle.io_edge.specs.States.{SinkState, Writes}
use Rattle.cam_types.specs.Picture.{picture}
use Rattle.cam_types.specs.declared.script.Script.{Script}
use Rattle.cam_types.specs.declared.stream.Format.{Format}
use Rattle.call_parts.specs.Meanings.{OfScript}
use Rattle.video_call.specs.Files.{body_in, film_file, picture_file}
use Rattle.run_model.specs.Lawful.{KeepsLaws}
use Rattle.run_model.specs.History.{trace_of}
use Rattle.run_model.specs.Played.{IsPlayedRun}
use Rattle.run_model.specs.declared.step.Move.{Move}
use Rattle.script_text.specs.Grammar.{script_of}
use Rattle.video_call.specs.Choice.{film_or_none, number_of, shot_or_none}
use Rattle.video_call.specs.declared.choice.NoFilm.{NoFilm}
use Rattle.video_call.specs.declared.shot.Shot.{Shot}
use Rattle.trace_model.specs.declared.entry.Entry.{Entry}
use Rattle.video_call.specs.declared.wanted.Wanted.{Wanted}
use Rattle.video_call.specs.declared.wanted.Wanted.TheVariants.{Film, Picture}

-- ---- files

-- the picture's bytes, whose SHA-256 stands in the trace
abbrev pub bytes_of : Shot → List ℕ
bytes_of shot = picture shot.spec shot.settings shot.frame.0

-- a picture with this head as it stands in a film
abbrev pub frame_of : List ℕ → Format → Shot → List ℕ
frame_of head format shot = head ++ body_in format (bytes_of shot)

-- the film's file; its format and size are those of the first picture
abbrev pub film_text : List Shot → List ℕ
film_text [] = []
film_text (shot ∷ shots) = film_file shot.spec (map bytes_of (shot ∷ shots))

abbrev pub picture_text : Shot → List ℕ
picture_text shot = picture_file shot.spec (bytes_of shot)

abbrev pub film_made : Result (List Shot) NoFilm → Result (List ℕ) NoFilm
film_made (Ok shots) = Ok (film_text shots)
film_made (Err cause) = Err cause

abbrev pub picture_made : Result Shot NoFilm → Result (List ℕ) NoFilm
picture_made (Ok shot) = Ok (picture_text shot)
picture_made (Err cause) = Err cause

-- the file that is wanted of a trace, or why there is none
abbrev pub file_of : Wanted → Script → List Entry → Result (List ℕ) NoFilm
file_of (Film s) script trace = film_made (film_or_none script s.0 trace)
file_of (Picture n s) script trace = picture_made (shot_or_none script n.0 s.0 trace)

-- ---- refusals

-- `refused video STREAM CAUSE`, or `refused picture FRAME STREAM CAUSE`
abbrev pub refusal_of : Wanted → NoFilm → List ℕ
refusal_of (Film s) cause =
    codes "refused video " ++ (decimal s.0 ++ (32 ∷ (decimal (number_of cause) ++ 10 ∷ [])))
refusal_of (Picture n s) cause =
    codes "refused picture "
    ++ (decimal n.0 ++ (32 ∷ (decimal s.0 ++ (32 ∷ (decimal (number_of cause) ++ 10 ∷ [])))))

-- ---- what belongs to an input

-- a file, or a line that refuses it
abbrev pub ShowsFile : Wanted → Result (List ℕ) NoFilm → ℕ → List ℕ → Type 0
ShowsFile wanted (Ok file) status text = (status ≡ 0) × (text ≡ file)
ShowsFile wanted (Err cause) status text = (status ≡ 1) × (text ≡ refusal_of wanted cause)

-- what is wanted of the script's played run
pub record ShowsRun (wanted : Wanted) (script : Script) (status : ℕ) (text : List ℕ) : Type 0 where
  pub history : List Move
  pub run : IsPlayedRun script history
  pub shows : ShowsFile wanted (file_of wanted script (trace_of history)) status text

-- of an input: what its meaning as a script says
abbrev pub Shows : Wanted → List ℕ → ℕ → List ℕ → Type 0
Shows wanted input status text = OfScript (ShowsRun wanted) input status text

-- the headline: the source's bytes spell a script, whose played run is complete and keeps the laws, and what was
-- written is the file that is wanted of its trace
pub record IsShown (wanted : Wanted) (input : List ℕ) (before after : SinkState) : Type 0 where
  pub script : Script
  pub meaning : script_of input ≡ Ok script
  pub history : List Move
  pub run : IsPlayedRun script history
  pub lawful : KeepsLaws script (trace_of history)
  pub file : List ℕ
  pub is : file_of wanted script (trace_of history) ≡ Ok file
  pub written : Writes before after file
