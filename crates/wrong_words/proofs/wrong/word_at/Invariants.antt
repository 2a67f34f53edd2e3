use Rattle.std.proofs.Common.{◌≡◌, length}
use Rattle.text_parts.specs.Words.{strict_words_behind}
use Rattle.wrong_words.specs.WordPlaces.{word_at}
use Rattle.wrong_words.proofs.wrong.word_at.Given as goal

-- what is left has the word at the place that is left
abbrev pub invariant-loop-word : goal.invariant-loop-word
invariant-loop-word l = word_at l.left (strict_words_behind l.rest) ≡ word_at l.place (strict_words_behind l.initial.rest)

abbrev pub decreases-loop-word : goal.decreases-loop-word
decreases-loop-word l = length l.rest
