use Rattle.std.proofs.Common.{◌≡◌, ◌+◌, ◌≤◌, length}
use Rattle.std.specs.Option.{option_map}
use Rattle.text_parts.specs.Lines.{lines_of}
use Rattle.script_text.specs.Grammar.{begun, script_from, script_of}
use Rattle.script_text.proofs.reading.read.Given as goal

abbrev pub invariant-loop-line : goal.invariant-loop-line
invariant-loop-line l = record {
  same : script_from (option_map (λ d. begun d.script d.devices) l.draft) l.number (lines_of l.rest) ≡ script_of l.bytes;
  long : l.number + length l.rest ≤ length l.bytes + 1;
}

abbrev pub decreases-loop-line : goal.decreases-loop-line
decreases-loop-line l = length l.rest
