use Rattle.std.proofs.Common.{◌≡◌, ◌+◌, ◌≤◌, true, length}
use Rattle.text_parts.specs.Lines.{lines_of}
use Rattle.hal_text.specs.Drafts.{Stands, is_short}
use Rattle.hal_text.specs.Meaning.{log_from, log_of}
use Rattle.hal_text.proofs.reading.read.Given as goal

abbrev pub invariant-loop-line : goal.invariant-loop-line
invariant-loop-line l = record {
  same : log_from l.draft.log l.number (lines_of l.rest) ≡ log_of l.bytes;
  long : l.number + length l.rest ≤ length l.bytes + 1;
  short : is_short l.draft.log l.number ≡ true;
  stands : Stands l.draft.log l.draft.begun;
}

abbrev pub decreases-loop-line : goal.decreases-loop-line
decreases-loop-line l = length l.rest
