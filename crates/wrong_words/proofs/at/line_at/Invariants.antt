use Rattle.std.proofs.Common.{◌≡◌, length}
use Rattle.std.specs.List.{slice_get}
use Rattle.text_parts.specs.Lines.{lines_of}
use Rattle.wrong_words.proofs.at.line_at.Given as goal

-- what is left has the line at the place that is left
abbrev pub invariant-loop-line : goal.invariant-loop-line
invariant-loop-line l = slice_get (lines_of l.rest) l.left ≡ slice_get (lines_of l.text) l.place

abbrev pub decreases-loop-line : goal.decreases-loop-line
decreases-loop-line l = length l.rest
