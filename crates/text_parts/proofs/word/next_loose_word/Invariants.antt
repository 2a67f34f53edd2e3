use Rattle.std.proofs.Common.{◌≡◌, ◌≤◌, length}
use Rattle.text_parts.specs.Words.{loose_words}
use Rattle.text_parts.proofs.word.next_loose_word.Given as goal

abbrev pub invariant-loop-word : goal.invariant-loop-word
invariant-loop-word l = (loose_words l.rest ≡ loose_words l.line) × (length l.rest ≤ length l.line)

abbrev pub decreases-loop-word : goal.decreases-loop-word
decreases-loop-word l = length l.rest
