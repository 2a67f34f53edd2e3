-- What `check` says of a legal trace. (docs/FORMATS.md)
use Rattle.std.specs.Prelude.{◌≡◌, ℕ, List, Ok, reverse, codes}
use Rattle.io_edge.specs.States.{SinkState, Writes}
use Rattle.cam_types.specs.declared.script.Script.{Script}
use Rattle.run_model.specs.Lawful.{KeepsLaws}
use Rattle.script_text.specs.Grammar.{script_of}
use Rattle.trace_model.specs.declared.list.TraceList.{TraceList}
use Rattle.trace_model.specs.Complete.{IsComplete}
use Rattle.trace_reader.specs.Grammar.{trace_of}
use Rattle.call_parts.specs.Parts.{first_line, script_part, trace_part}
use Rattle.call_parts.specs.Profiles.{profile_of}

-- the input is a script and a trace of its profile, the trace is a complete legal run of the script, which keeps the
-- laws, and `legal` was written
pub record IsJudgedLegal (input : List ℕ) (before after : SinkState) : Type 0 where
  pub script : Script
  pub meaning : script_of (script_part input) ≡ Ok script
  pub trace : TraceList
  pub read : trace_of (first_line input) (trace_part input) ≡ Ok trace
  pub agreeing : profile_of trace ≡ script.profile
  pub complete : IsComplete script (reverse trace.entries)
  pub lawful : KeepsLaws script (reverse trace.entries)
  pub written : Writes before after (codes "legal\n")
