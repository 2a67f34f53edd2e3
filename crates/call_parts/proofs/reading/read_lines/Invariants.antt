use Rattle.std.proofs.Common.{◌≡◌, ◌+◌, ◌≤◌, None, length}
use Rattle.std.specs.Option.{option_map}
use Rattle.text_parts.specs.Lines.{lines_of}
use Rattle.call_parts.specs.Reading.{text_from}
use Rattle.call_parts.proofs.reading.read_lines.Given as goal

abbrev pub invariant-loop-line : goal.invariant-loop-line
invariant-loop-line g l = record {
  same : text_from g.D.LineText.grammar (option_map g.D.LineText.stage l.draft) l.number (lines_of l.rest) ≡ text_from g.D.LineText.grammar None 1 (lines_of l.text);
  long : l.number + length l.rest ≤ length l.text + 1;
}

abbrev pub decreases-loop-line : goal.decreases-loop-line
decreases-loop-line g l = length l.rest
