use Rattle.std.proofs.Common.{◌≡◌, filter, not, reverse, take}
use Rattle.std.specs.List.{flat_map}
use Rattle.trace_model.specs.Queue.{is_taken, submitted}
use Rattle.explain_call.specs.Missing.{waiting_line}
use Rattle.explain_call.proofs.queue.waiting.Given as goal

abbrev pub invariant-loop-entry : goal.invariant-loop-entry
invariant-loop-entry l =
    l.text.items ≡ flat_map waiting_line (filter (λ w. not (is_taken (reverse l.entries) w)) (submitted l.script (reverse (take l.entry-index l.entries))))
