use Rattle.std.proofs.Common.{◌≡◌, reverse, take}
use Rattle.reprocess_model.specs.Past.{is_gone}
use Rattle.reprocess_core.proofs.reads.is_gone.Given as goal

abbrev pub invariant-loop-line : goal.invariant-loop-line
invariant-loop-line l = l.found ≡ is_gone l.request (reverse (take l.line-index l.lines))
