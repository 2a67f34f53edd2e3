use Rattle.std.proofs.Common.{◌≡◌, ◌≤◌, ◌+◌, length, option_map}
use Rattle.text_parts.specs.Cuts.{parts_at}
use Rattle.call_parts.specs.Parts.{bytes_before}
use Rattle.call_parts.proofs.part.trace_start.Given as goal

abbrev pub invariant-loop-line : goal.invariant-loop-line
invariant-loop-line l =
    (bytes_before (parts_at 10 l.input) ≡ option_map (λ n. l.start + n) (bytes_before (parts_at 10 l.rest)))
    × (l.start + length l.rest ≤ length l.input)

abbrev pub decreases-loop-line : goal.decreases-loop-line
decreases-loop-line l = length l.rest
