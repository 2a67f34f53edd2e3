-- The text of a run. (docs/FORMATS.md)
use Rattle.std.specs.Prelude.{◌==◌, ℕ, List, Option, Some, None, reverse, if◌then◌else◌}
use Rattle.cam_types.specs.declared.profile.Profile.{Profile}
use Rattle.cam_types.specs.declared.script.Script.{Script}
use Rattle.run_model.specs.History.{trace_of}
use Rattle.run_model.specs.declared.step.Move.{Move}
use Rattle.trace_model.specs.Summary.{summary_of}
use Rattle.trace_model.specs.declared.entry.Entry.{Entry}
use Rattle.trace_text.specs.Spelling.{spelling}
use Rattle.trace_text.specs.Summary.{summary_line}
use Rattle.call_parts.specs.declared.output.Output.{Output}
use Rattle.call_parts.specs.declared.output.Output.TheVariants.{Trace, Summary}

-- the profile that the first line of a script's trace names: none for a script of version 1
abbrev pub named_profile : Script → Option Profile
named_profile script = if script.version == 1 then None else Some script.profile

-- the text of a trace: the whole of it, or its summary
abbrev pub text_by : Output → Option Profile → List Entry → List ℕ
text_by Trace profile trace = spelling profile trace
text_by Summary _ trace = summary_line (summary_of trace)

-- the text of a history, of its trace or the summary of that
abbrev pub text_in : Output → Script → List Move → List ℕ
text_in output script history = text_by output (named_profile script) (reverse (trace_of history))
