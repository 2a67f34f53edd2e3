use Rattle.std.proofs.Common.{◌≡◌, reverse, take}
use Rattle.reprocess_model.specs.Past.{has_input}
use Rattle.reprocess_core.proofs.reads.has_input.Given as goal

abbrev pub invariant-loop-line : goal.invariant-loop-line
invariant-loop-line l = l.found ≡ has_input l.request (reverse (take l.line-index l.lines))
