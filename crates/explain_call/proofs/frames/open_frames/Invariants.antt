use Rattle.std.proofs.Common.{◌≡◌, ◌+◌, ◌++◌, ◌≤◌, true, length, reverse}
use Rattle.std.specs.List.{list_all}
use Rattle.trace_model.specs.Printable.{is_printable}
use Rattle.explain_call.specs.Missing.{open_lines}
use Rattle.explain_call.proofs.frames.open_frames.Given as goal

abbrev pub invariant-loop-rest : goal.invariant-loop-rest
invariant-loop-rest l = record {
  whole : l.text.items ++ open_lines (reverse l.entries) l.number l.rest ≡ open_lines (reverse l.entries) l.initial.number l.entries;
  printable : list_all is_printable l.rest ≡ true;
  numbers : l.number + length l.rest ≤ 1099511627776;
}

abbrev pub decreases-loop-rest : goal.decreases-loop-rest
decreases-loop-rest l = length l.rest
