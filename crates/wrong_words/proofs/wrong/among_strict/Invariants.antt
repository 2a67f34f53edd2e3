use Rattle.std.proofs.Common.{◌≡◌, ◌+◌, ◌≤◌, length}
use Rattle.text_parts.specs.Words.{strict_words_behind}
use Rattle.wrong_words.specs.WordPlaces.{first_wrong, trace_kind}
use Rattle.wrong_words.proofs.wrong.among_strict.Given as goal

-- the words so far are of their kinds
abbrev pub invariant-loop-word : goal.invariant-loop-word
invariant-loop-word l = record {
  same : first_wrong (trace_kind l.first l.how) l.place (strict_words_behind l.rest) ≡ first_wrong (trace_kind l.first l.how) 1 (strict_words_behind l.words);
  place : l.place + length l.rest ≤ 1 + length l.words;
}

abbrev pub decreases-loop-word : goal.decreases-loop-word
decreases-loop-word l = length l.rest
