use Rattle.std.proofs.Common.{◌≡◌, length}
use Rattle.text_parts.specs.Words.{loose_words}
use Rattle.text_parts.specs.Values.{all_of, number}
use Rattle.text_parts.specs.LineWords.{past_limit}
use Rattle.text_parts.proofs.picks.past_numbers.Given as goal

abbrev pub invariant-loop-word : goal.invariant-loop-word
invariant-loop-word l = past_limit (all_of number (loose_words l.rest)) ≡ past_limit (all_of number (loose_words l.words))

abbrev pub decreases-loop-word : goal.decreases-loop-word
decreases-loop-word l = length l.rest
