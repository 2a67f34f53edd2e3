use Rattle.std.proofs.Common.{◌≡◌, reverse, take}
use Rattle.reprocess_model.specs.Past.{is_returned}
use Rattle.reprocess_core.proofs.reads.is_returned.Given as goal

abbrev pub invariant-loop-line : goal.invariant-loop-line
invariant-loop-line l = l.found ≡ is_returned l.request l.output (reverse (take l.line-index l.lines))
