use Rattle.std.proofs.Common.{◌≡◌, ◌+◌, ◌++◌, reverse}
use Rattle.std.specs.List.{flat_map, range_with_len}
use Rattle.explain_call.specs.Missing.{buffer_line}
use Rattle.explain_call.proofs.buffers.put_range.Given as goal

abbrev pub invariant-loop-left : goal.invariant-loop-left
invariant-loop-left l = record {
  whole : l.text.items ++ flat_map (buffer_line (reverse l.entries)) (range_with_len l.number l.left) ≡ l.initial.text.items ++ flat_map (buffer_line (reverse l.entries)) (range_with_len l.first l.count);
  number : l.number + l.left ≡ l.first + l.count;
}

abbrev pub decreases-loop-left : goal.decreases-loop-left
decreases-loop-left l = l.left
