use Rattle.std.proofs.Common.{◌≡◌, reverse, take}
use Rattle.reprocess_model.specs.Past.{input_holder}
use Rattle.reprocess_core.proofs.reads.input_holder.Given as goal

abbrev pub invariant-loop-line : goal.invariant-loop-line
invariant-loop-line l = l.holder ≡ input_holder l.buffer (reverse (take l.line-index l.lines))
