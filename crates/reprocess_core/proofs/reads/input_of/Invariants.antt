use Rattle.std.proofs.Common.{◌≡◌, reverse, take}
use Rattle.reprocess_model.specs.Past.{input_of}
use Rattle.reprocess_core.proofs.reads.input_of.Given as goal

abbrev pub invariant-loop-line : goal.invariant-loop-line
invariant-loop-line l = l.input ≡ input_of l.request (reverse (take l.line-index l.lines))
