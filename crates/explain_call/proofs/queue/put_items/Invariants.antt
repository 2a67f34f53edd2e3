use Rattle.std.proofs.Common.{◌≡◌, ◌+◌, ◌++◌, filter, length, not, reverse}
use Rattle.std.specs.List.{flat_map}
use Rattle.trace_model.specs.Queue.{is_taken, named}
use Rattle.explain_call.specs.Missing.{waiting_line}
use Rattle.explain_call.proofs.queue.put_items.Given as goal

abbrev pub invariant-loop-rest : goal.invariant-loop-rest
invariant-loop-rest l = record {
  whole : l.text.items ++ flat_map waiting_line (filter (λ w. not (is_taken (reverse l.entries) w)) (named l.request l.place l.rest)) ≡ l.initial.text.items ++ flat_map waiting_line (filter (λ w. not (is_taken (reverse l.entries) w)) (named l.request 0 l.items));
  place : l.place + length l.rest ≡ length l.items;
}

abbrev pub decreases-loop-rest : goal.decreases-loop-rest
decreases-loop-rest l = length l.rest
