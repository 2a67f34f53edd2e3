use Rattle.std.proofs.Common.{◌≡◌, reverse, take}
use Rattle.reprocess_model.specs.Past.{is_stopped, is_taken}
use Rattle.reprocess_core.proofs.reads.is_stopped.Given as goal

abbrev pub invariant-loop-line : goal.invariant-loop-line
invariant-loop-line l = record { taken : l.taken ≡ is_taken l.request (reverse (take l.line-index l.lines)); stopped : l.stopped ≡ is_stopped l.request (reverse (take l.line-index l.lines)) }
