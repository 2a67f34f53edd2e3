-- What `run` answers and writes: the trace of a complete run of the script, whichever steps the workers made first.
-- (docs/FORMATS.md)
use Rattle.std.specs.Prelude.{◌≡◌, ℕ, List, Ok}
use Rattle.io_edge.specs.States.{SinkState, Writes}
use Rattle.cam_types.specs.declared.script.Script.{Script}
use Rattle.script_text.specs.Grammar.{script_of}
use Rattle.run_model.specs.declared.step.Move.{Move}
use Rattle.run_calls.specs.Finished.{IsWholeHistory}
use Rattle.call_parts.specs.Meanings.{OfScript}
use Rattle.call_parts.specs.Texts.{text_in}
use Rattle.call_parts.specs.declared.output.Output.TheVariants.{Trace}

-- the text is the whole trace of a run of the script that is complete and keeps the laws
pub record IsRunText (script : Script) (text : List ℕ) : Type 0 where
  pub history : List Move
  pub whole : IsWholeHistory script history
  pub shown : text ≡ text_in Trace script history

-- of a script that is run
abbrev pub SaysOfRun : Script → ℕ → List ℕ → Type 0
SaysOfRun script status text = (status ≡ 0) × IsRunText script text

-- of an input: what its meaning as a script says
abbrev pub Runs : List ℕ → ℕ → List ℕ → Type 0
Runs input status text = OfScript SaysOfRun input status text

-- the headline: the source's bytes spell a script, and what was written is the whole trace of a run of it, which is
-- complete and keeps the laws
pub record IsRunWhole (input : List ℕ) (before after : SinkState) : Type 0 where
  pub script : Script
  pub meaning : script_of input ≡ Ok script
  pub history : List Move
  pub whole : IsWholeHistory script history
  pub written : Writes before after (text_in Trace script history)
