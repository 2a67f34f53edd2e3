use Rattle.std.proofs.Common.{◌≡◌, ◌≤◌, reverse, take}
use Rattle.reprocess_model.specs.Past.{request_count}
use Rattle.reprocess_core.proofs.reads.request_count.Given as goal

abbrev pub invariant-loop-line : goal.invariant-loop-line
invariant-loop-line l = record { value : l.count ≡ request_count (reverse (take l.line-index l.lines)); most : l.count ≤ l.line-index }
