use Rattle.std.proofs.Common.{◌≡◌, reverse, take}
use Rattle.reprocess_model.specs.Past.{has_fill}
use Rattle.reprocess_core.proofs.reads.has_fill.Given as goal

abbrev pub invariant-loop-line : goal.invariant-loop-line
invariant-loop-line l = l.found ≡ has_fill l.request (reverse (take l.line-index l.lines))
