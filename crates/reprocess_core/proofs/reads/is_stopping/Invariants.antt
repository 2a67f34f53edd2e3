use Rattle.std.proofs.Common.{◌≡◌, reverse, take}
use Rattle.reprocess_model.specs.Past.{is_stopping}
use Rattle.reprocess_core.proofs.reads.is_stopping.Given as goal

abbrev pub invariant-loop-line : goal.invariant-loop-line
invariant-loop-line l = l.stopping ≡ is_stopping (reverse (take l.line-index l.lines))
