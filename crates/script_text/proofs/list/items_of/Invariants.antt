use Rattle.std.proofs.Common.{◌≡◌, true, length}
use Rattle.text_parts.specs.Words.{loose_words}
use Rattle.text_parts.specs.Values.{all_of}
use Rattle.script_text.specs.Values.{item_of}
use Rattle.script_text.specs.Within.{items_within}
use Rattle.text_parts.proofs.Fronts.{with_front}
use Rattle.script_text.proofs.list.items_of.Given as goal

abbrev pub invariant-loop-word : goal.invariant-loop-word
invariant-loop-word l = record {
  same : with_front l.items (all_of item_of (loose_words l.rest)) ≡ all_of item_of (loose_words l.words);
  within : items_within l.limit l.items ≡ true;
}

abbrev pub decreases-loop-word : goal.decreases-loop-word
decreases-loop-word l = length l.rest
