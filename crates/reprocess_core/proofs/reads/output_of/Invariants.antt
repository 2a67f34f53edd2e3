use Rattle.std.proofs.Common.{◌≡◌, reverse, take}
use Rattle.reprocess_model.specs.Past.{output_of}
use Rattle.reprocess_core.proofs.reads.output_of.Given as goal

abbrev pub invariant-loop-line : goal.invariant-loop-line
invariant-loop-line l = l.buffer ≡ output_of l.request l.output (reverse (take l.line-index l.lines))
