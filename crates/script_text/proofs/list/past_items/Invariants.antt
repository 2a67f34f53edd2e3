use Rattle.std.proofs.Common.{◌≡◌, length}
use Rattle.text_parts.specs.Words.{loose_words}
use Rattle.text_parts.specs.Values.{all_of}
use Rattle.script_text.specs.Values.{item_of}
use Rattle.text_parts.specs.LineWords.{past_limit}
use Rattle.script_text.proofs.list.past_items.Given as goal

abbrev pub invariant-loop-word : goal.invariant-loop-word
invariant-loop-word l = past_limit (all_of item_of (loose_words l.rest)) ≡ past_limit (all_of item_of (loose_words l.words))

abbrev pub decreases-loop-word : goal.decreases-loop-word
decreases-loop-word l = length l.rest
