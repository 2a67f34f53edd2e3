use Rattle.std.proofs.Common.{◌≡◌, length}
use Rattle.std.specs.List.{slice_get}
use Rattle.text_parts.specs.Cuts.{parts_at}
use Rattle.wrong_words.proofs.at.part_at.Given as goal

-- what is left has the line at the place that is left
abbrev pub invariant-loop-line : goal.invariant-loop-line
invariant-loop-line l = slice_get (parts_at 10 l.rest) l.left ≡ slice_get (parts_at 10 l.text) l.place

abbrev pub decreases-loop-line : goal.decreases-loop-line
decreases-loop-line l = length l.rest
