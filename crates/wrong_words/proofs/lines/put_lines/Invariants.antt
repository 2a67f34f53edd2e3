use Rattle.std.proofs.Common.{◌≡◌, ◌+◌, ◌++◌, ◌≤◌, true, length}
use Rattle.std.specs.List.{list_all}
use Rattle.trace_model.specs.Printable.{is_printable}
use Rattle.wrong_words.specs.Lines.{lines_where}
use Rattle.wrong_words.proofs.lines.put_lines.Given as goal

-- what is written and what is left are the whole
abbrev pub invariant-loop-rest : goal.invariant-loop-rest
invariant-loop-rest g l = record {
  whole : l.text.items ++ lines_where (g.C.Choice.test l.choice) l.number l.rest ≡ l.initial.text.items ++ lines_where (g.C.Choice.test l.choice) l.initial.number l.entries;
  printable : list_all is_printable l.rest ≡ true;
  numbers : l.number + length l.rest ≤ 1099511627776;
}

abbrev pub decreases-loop-rest : goal.decreases-loop-rest
decreases-loop-rest g l = length l.rest
