use Rattle.std.proofs.Common.{◌≡◌, true, length}
use Rattle.text_parts.specs.Words.{loose_words}
use Rattle.text_parts.specs.Values.{all_of, number}
use Rattle.text_parts.specs.LineWords.{few}
use Rattle.text_parts.proofs.Fronts.{with_front}
use Rattle.text_parts.proofs.picks.with_picks.Given as goal

abbrev pub invariant-loop-word : goal.invariant-loop-word
invariant-loop-word l = record {
  same : with_front l.picks (all_of number (loose_words l.rest)) ≡ with_front l.initial.picks (all_of number (loose_words l.words));
  within : few l.limit l.picks ≡ true;
}

abbrev pub decreases-loop-word : goal.decreases-loop-word
decreases-loop-word l = length l.rest
