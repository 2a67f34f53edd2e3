use Rattle.std.proofs.Common.{◌≡◌, ◌+◌, ◌≤◌, length}
use Rattle.text_parts.specs.Words.{loose_words}
use Rattle.wrong_words.specs.WordPlaces.{first_wrong, script_kind}
use Rattle.wrong_words.proofs.wrong.among_loose.Given as goal

-- the words so far are of their kinds
abbrev pub invariant-loop-word : goal.invariant-loop-word
invariant-loop-word l = record {
  same : first_wrong (script_kind l.first) l.place (loose_words l.rest) ≡ first_wrong (script_kind l.first) 1 (loose_words l.words);
  place : l.place + length l.rest ≤ 1 + length l.words;
}

abbrev pub decreases-loop-word : goal.decreases-loop-word
decreases-loop-word l = length l.rest
