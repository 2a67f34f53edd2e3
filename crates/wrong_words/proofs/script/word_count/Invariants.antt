use Rattle.std.proofs.Common.{◌≡◌, ◌+◌, ◌≤◌, length}
use Rattle.text_parts.specs.Words.{loose_words}
use Rattle.wrong_words.proofs.script.word_count.Given as goal

-- the words so far and those that are left are all
abbrev pub invariant-loop-after : goal.invariant-loop-after
invariant-loop-after l = record {
  words : l.count + length (loose_words l.rest) ≡ length (loose_words l.line);
  bytes : l.count + length l.rest ≤ length l.line;
}

abbrev pub decreases-loop-after : goal.decreases-loop-after
decreases-loop-after l = length l.rest
