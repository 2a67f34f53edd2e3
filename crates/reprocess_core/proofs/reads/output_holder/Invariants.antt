use Rattle.std.proofs.Common.{◌≡◌, reverse, take}
use Rattle.reprocess_model.specs.Past.{output_holder}
use Rattle.reprocess_core.proofs.reads.output_holder.Given as goal

abbrev pub invariant-loop-line : goal.invariant-loop-line
invariant-loop-line l = l.holder ≡ output_holder l.number (reverse (take l.line-index l.lines))
