-- What is left of the input decides.
use Rattle.std.proofs.Common.{◌≡◌, length}
use Rattle.text_parts.specs.Lines.{lines_of}
use Rattle.run_views.specs.Kinds.{begins_hal}
use Rattle.run_views.proofs.kind.is_hal.Given as goal

abbrev pub invariant-loop-line : goal.invariant-loop-line
invariant-loop-line l = begins_hal (lines_of l.rest) ≡ begins_hal (lines_of l.input)

abbrev pub decreases-loop-line : goal.decreases-loop-line
decreases-loop-line l = length l.rest
