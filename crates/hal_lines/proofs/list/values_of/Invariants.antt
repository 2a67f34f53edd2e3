use Rattle.std.proofs.Common.{◌≡◌, ◌+◌, ◌≤◌, length}
use Rattle.text_parts.specs.Words.{loose_words}
use Rattle.hal_lines.specs.Lines.{before_marks, each}
use Rattle.hal_lines.proofs.Fronts.{with_front}
use Rattle.hal_lines.proofs.list.values_of.Given as goal

abbrev pub invariant-loop-word : goal.invariant-loop-word
invariant-loop-word g l = record {
  same : with_front l.values (each g.T.Word.means (before_marks (loose_words l.rest))) ≡ each g.T.Word.means (before_marks (loose_words l.words));
  few : length l.values + length (before_marks (loose_words l.rest)) ≤ 16;
}

abbrev pub decreases-loop-word : goal.decreases-loop-word
decreases-loop-word g l = length l.rest
