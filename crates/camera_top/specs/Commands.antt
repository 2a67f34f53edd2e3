use Rattle.std.specs.Prelude.{ℕ, List, Option, Some, None}
use Rattle.io_edge.specs.States.{SinkState}
use Rattle.text_parts.specs.declared.form.Form.{Form}
use Rattle.text_parts.specs.declared.form.Form.TheVariants.{Play, Run, Check, Convert, Gen, Arbiter, Auto, Logical, Reprocess, Help}
use Rattle.call_parts.specs.Meaning.{Judges}
use Rattle.call_parts.specs.Answers.{Answers, Tells, TellsBy}
use Rattle.arbiter_call.specs.Arbitrates.{Arbitrates}
use Rattle.auto_call.specs.Auto.{Captures}
use Rattle.play_calls.specs.Converting.{ConvertsInput}
use Rattle.logical_call.specs.Logical.{TellsBoth}
use Rattle.camera_top.specs.Help.{help_text, usage_line}
use Rattle.reprocess_call.specs.Reprocess.{Reprocesses}
use Rattle.run_calls.specs.Running.{Runs}
use Rattle.play_calls.specs.Says.{Says, SaysOfSeed}

-- What the program answers and writes for each form that its words have: what belongs to the input's meaning, or to the
-- seed and the count; and the usage line where they have no form. (docs/FORMATS.md)
abbrev pub TellsOf : Option Form → Option (List ℕ) → ℕ → SinkState → SinkState → Type 0
TellsOf (Some Play) left status before after = Tells Says left status before after
TellsOf (Some (Run workers)) left status before after = Tells Runs left status before after
TellsOf (Some Check) left status before after = Tells Judges left status before after
TellsOf (Some Convert) left status before after = Tells ConvertsInput left status before after
TellsOf (Some Arbiter) left status before after = Tells Arbitrates left status before after
TellsOf (Some Auto) left status before after = Tells Captures left status before after
TellsOf (Some Logical) left status before after = Tells TellsBoth left status before after
TellsOf (Some Reprocess) left status before after = Tells Reprocesses left status before after
TellsOf (Some (Gen seed count)) left status before after = TellsBy (SaysOfSeed seed count) status before after
TellsOf (Some Help) left status before after = Answers 0 help_text status before after
TellsOf None left status before after = Answers 2 usage_line status before after
