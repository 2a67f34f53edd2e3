use Rattle.std.proofs.Common.{◌≡◌, ◌+◌, ◌≤◌, length}
use Rattle.text_parts.specs.Cuts.{parts_at}
use Rattle.trace_reader.specs.Grammar.{entries_from}
use Rattle.trace_reader.proofs.Fronts.{with_front}
use Rattle.trace_reader.proofs.reading.entries_from.Given as goal

abbrev pub invariant-loop-line : goal.invariant-loop-line
invariant-loop-line l = record {
  same : with_front l.entries (entries_from l.number (parts_at 10 l.rest)) ≡ entries_from l.first (parts_at 10 l.text);
  long : l.number + length l.rest ≤ l.first + length l.text;
  few : length l.entries + length l.rest ≤ length l.text;
}

abbrev pub decreases-loop-line : goal.decreases-loop-line
decreases-loop-line l = length l.rest
