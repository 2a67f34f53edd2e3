use Rattle.std.proofs.Common.{◌≡◌, ◌+◌, ◌++◌, length, reverse}
use Rattle.trace_model.specs.Numbers.{call_count}
use Rattle.explain_call.specs.Missing.{command_lines, uncalled}
use Rattle.explain_call.proofs.commands.uncalled.Given as goal

abbrev pub invariant-loop-rest : goal.invariant-loop-rest
invariant-loop-rest l = record {
  whole : l.text.items ++ command_lines (call_count (reverse l.entries)) l.place l.rest ≡ uncalled l.script (reverse l.entries);
  place : l.place + length l.rest ≡ length l.script.commands;
}

abbrev pub decreases-loop-rest : goal.decreases-loop-rest
decreases-loop-rest l = length l.rest
