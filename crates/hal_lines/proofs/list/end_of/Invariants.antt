use Rattle.std.proofs.Common.{◌≡◌, ◌+◌, ◌≤◌, length}
use Rattle.text_parts.specs.Words.{loose_words}
use Rattle.hal_lines.specs.Lines.{before_marks, from_marks}
use Rattle.hal_lines.proofs.list.end_of.Given as goal

abbrev pub invariant-loop-word : goal.invariant-loop-word
invariant-loop-word l = record {
  count : l.count + length (before_marks (loose_words l.rest)) ≡ length (before_marks (loose_words l.words));
  short : l.count + length l.rest ≤ length l.words;
  rest : from_marks (loose_words l.rest) ≡ from_marks (loose_words l.words);
}

abbrev pub decreases-loop-word : goal.decreases-loop-word
decreases-loop-word l = length l.rest
