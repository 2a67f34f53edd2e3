use Rattle.std.proofs.Common.{◌≡◌, ◌+◌, ◌++◌, ◌≤◌, true, length}
use Rattle.std.specs.List.{list_all}
use Rattle.trace_model.specs.Printable.{is_printable}
use Rattle.explain_call.specs.Explained.{refused_lines}
use Rattle.explain_call.proofs.idle.put_refused_lines.Given as goal

-- what is written and what is left are the whole behind what was there
abbrev pub invariant-loop-rest : goal.invariant-loop-rest
invariant-loop-rest l = record {
  whole : l.text.items ++ refused_lines l.part l.number l.rest ≡ l.initial.text.items ++ refused_lines l.part l.initial.number l.entries;
  printable : list_all is_printable l.rest ≡ true;
  numbers : l.number + length l.rest ≤ 1099511627776;
}

abbrev pub decreases-loop-rest : goal.decreases-loop-rest
decreases-loop-rest l = length l.rest
