use Rattle.std.proofs.Common.{◌≡◌, ◌==◌, not, length}
use Rattle.std.specs.List.{list_all}
use Rattle.text_parts.specs.Words.{strict_words_behind}
use Rattle.trace_reader.proofs.line.has_single_spaces.Given as goal

abbrev pub invariant-loop-word : goal.invariant-loop-word
invariant-loop-word l =
    list_all (λ word. not (length word == 0)) (strict_words_behind l.rest) ≡
    list_all (λ word. not (length word == 0)) (strict_words_behind l.behind)

abbrev pub decreases-loop-word : goal.decreases-loop-word
decreases-loop-word l = length l.rest
