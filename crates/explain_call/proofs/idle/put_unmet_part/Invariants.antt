use Rattle.std.proofs.Common.{◌≡◌, ◌+◌, ◌++◌, length, reverse}
use Rattle.explain_call.specs.Explained.{unmet_lines}
use Rattle.explain_call.proofs.idle.put_unmet_part.Given as goal

-- what is written and what is left are the whole
abbrev pub invariant-loop-rest : goal.invariant-loop-rest
invariant-loop-rest l = record {
  whole : l.lines.items ++ unmet_lines l.part (reverse l.entries) l.place l.rest ≡ unmet_lines l.part (reverse l.entries) 0 l.script.faults;
  place : l.place + length l.rest ≡ length l.script.faults;
}

abbrev pub decreases-loop-rest : goal.decreases-loop-rest
decreases-loop-rest l = length l.rest
