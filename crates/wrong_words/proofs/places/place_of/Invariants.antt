use Rattle.std.proofs.Common.{◌≡◌, ◌+◌, ◌≤◌, length}
use Rattle.std.specs.List.{slice_get}
use Rattle.text_parts.specs.Lines.{lines_of}
use Rattle.wrong_words.specs.Places.{kind_lines, place_of}
use Rattle.wrong_words.proofs.places.place_of.Given as goal

-- what is left of the text has the line at the place that is left
abbrev pub invariant-loop-line : goal.invariant-loop-line
invariant-loop-line l = record {
  found : slice_get (kind_lines l.kind l.number (lines_of l.rest)) l.left ≡ place_of l.kind l.text l.place;
  numbers : l.number + length l.rest ≤ 134217729;
}

abbrev pub decreases-loop-line : goal.decreases-loop-line
decreases-loop-line l = length l.rest
