use Rattle.std.proofs.Common.{◌≡◌, ◌^◌, is_some, length}
use Rattle.text_parts.specs.Values.{all_of}
use Rattle.text_parts.specs.Cuts.{parts_at}
use Rattle.text_parts.specs.Numbers.{number_below}
use Rattle.wrong_words.proofs.script_word.is_joined.Given as goal

-- all streams are numbers where those that are left are
abbrev pub invariant-loop-stream : goal.invariant-loop-stream
invariant-loop-stream l = is_some (all_of (number_below (2 ^ 8)) (parts_at 43 l.rest)) ≡ is_some (all_of (number_below (2 ^ 8)) (parts_at 43 l.word))

abbrev pub decreases-loop-stream : goal.decreases-loop-stream
decreases-loop-stream l = length l.rest
