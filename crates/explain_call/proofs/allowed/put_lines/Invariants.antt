use Rattle.std.proofs.Common.{◌≡◌, ◌++◌, true, length}
use Rattle.std.specs.List.{flat_map, list_all}
use Rattle.allowed_entries.specs.Known.{prints}
use Rattle.explain_call.specs.Allowed.{allowed_line}
use Rattle.explain_call.proofs.allowed.put_lines.Given as goal

-- what is written and what is left are the whole
abbrev pub invariant-loop-rest : goal.invariant-loop-rest
invariant-loop-rest l = record {
  whole : l.text.items ++ flat_map allowed_line l.rest ≡ l.initial.text.items ++ flat_map allowed_line l.list;
  prints : list_all prints l.rest ≡ true;
}

abbrev pub decreases-loop-rest : goal.decreases-loop-rest
decreases-loop-rest l = length l.rest
