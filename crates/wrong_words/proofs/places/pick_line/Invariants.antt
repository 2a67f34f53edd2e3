use Rattle.std.proofs.Common.{◌≡◌, ◌+◌, ◌≤◌, length}
use Rattle.std.specs.List.{flat_map, slice_get}
use Rattle.text_parts.specs.Lines.{lines_of}
use Rattle.wrong_words.specs.Places.{numbered, numbers_of}
use Rattle.wrong_words.proofs.places.pick_line.Given as goal

-- what is left of the text has the pick at the place that is left
abbrev pub invariant-loop-line : goal.invariant-loop-line
invariant-loop-line l = record {
  found : slice_get (flat_map numbers_of (numbered l.number (lines_of l.rest))) l.left ≡ slice_get (flat_map numbers_of (numbered 1 (lines_of l.text))) l.place;
  numbers : l.number + length l.rest ≤ 134217729;
}

abbrev pub decreases-loop-line : goal.decreases-loop-line
decreases-loop-line l = length l.rest
