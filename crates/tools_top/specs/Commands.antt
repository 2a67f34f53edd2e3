use Rattle.std.specs.Prelude.{ℕ, Bool, List, Option, Some, None, if◌then◌else◌}
use Rattle.io_edge.specs.States.{SinkState, Writes}
use Rattle.call_parts.specs.Answers.{Answers, Tells}
use Rattle.hal_call.specs.Judging.{IsUnbroken, Judges}
use Rattle.hal_call.specs.declared.form.Form.{Form}
use Rattle.hal_call.specs.declared.form.Form.TheVariants.{Person, Plain}
use Rattle.hal_call.specs.Shown.{IsShown as IsHalLog, Shows as ShowsHalLog}
use Rattle.run_views.specs.Says.{IsWhole as IsMoves, Says as SaysMoves}
use Rattle.explain_call.specs.Explaining.{Explains, IsExplainedLegal}
use Rattle.run_views.specs.Shown.{IsShown as IsTimeline, Shows as ShowsTimeline}
use Rattle.run_views.specs.declared.form.Form.{Form as Drawing}
use Rattle.run_views.specs.declared.form.Form.TheVariants.{Perfetto, Svg}
use Rattle.video_call.specs.Shows.{IsShown as IsFilm, Shows as ShowsFilm}
use Rattle.video_call.specs.declared.wanted.Wanted.{Wanted}
use Rattle.video_call.specs.declared.wanted.Wanted.TheVariants.{Film, Picture as OnePicture}
use Rattle.tools_top.specs.Help.{help_text, usage_line}
use Rattle.tools_top.specs.declared.tool.Tool.{Tool}
use Rattle.tools_top.specs.declared.tool.Tool.TheVariants.{Candidates, Explain, Hal, HalOf, Help, Picture, Timeline, Video}

-- for whom the report of `hal` is written
abbrev pub form_of : Bool → Form
form_of plain = if plain then Plain else Person

-- what `timeline` writes
abbrev pub drawing_of : Bool → Drawing
drawing_of perfetto = if perfetto then Perfetto else Svg

-- what `video` and `picture` write
abbrev pub film_of : ℕ → Wanted
film_of stream = Film (record { 0 = stream })

abbrev pub picture_of : ℕ → ℕ → Wanted
picture_of frame stream = OnePicture (record { 0 = frame }) (record { 0 = stream })

-- What the second program answers and writes for each tool that its words ask for: what belongs to the input's meaning;
-- and the usage line where they ask for none. (docs/FORMATS.md)
abbrev pub TellsOfTool : Option Tool → Option (List ℕ) → ℕ → SinkState → SinkState → Type 0
TellsOfTool (Some (Hal plain strict)) left status before after =
    Tells (Judges (form_of plain) strict) left status before after
TellsOfTool (Some HalOf) left status before after = Tells ShowsHalLog left status before after
TellsOfTool (Some Candidates) left status before after = Tells SaysMoves left status before after
TellsOfTool (Some Explain) left status before after = Tells Explains left status before after
TellsOfTool (Some (Timeline perfetto)) left status before after =
    Tells (ShowsTimeline (drawing_of perfetto)) left status before after
TellsOfTool (Some (Video stream)) left status before after =
    Tells (ShowsFilm (film_of stream)) left status before after
TellsOfTool (Some (Picture frame stream)) left status before after =
    Tells (ShowsFilm (picture_of frame stream)) left status before after
TellsOfTool (Some Help) left status before after = Answers 0 help_text status before after
TellsOfTool None left status before after = Answers 2 usage_line status before after

-- What was read and written where a tool has done what it is asked for. (docs/FORMATS.md, statuses: 0)
abbrev pub IsDone : Option Tool → List ℕ → SinkState → SinkState → Type 0
IsDone (Some (Hal plain strict)) input before after = IsUnbroken (form_of plain) strict input before after
IsDone (Some HalOf) input before after = IsHalLog input before after
IsDone (Some Candidates) input before after = IsMoves input before after
IsDone (Some Explain) input before after = IsExplainedLegal input before after
IsDone (Some (Timeline perfetto)) input before after = IsTimeline (drawing_of perfetto) input before after
IsDone (Some (Video stream)) input before after = IsFilm (film_of stream) input before after
IsDone (Some (Picture frame stream)) input before after = IsFilm (picture_of frame stream) input before after
IsDone (Some Help) input before after = Writes before after help_text
IsDone None input before after = ⊥
