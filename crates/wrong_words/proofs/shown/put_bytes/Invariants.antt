use Rattle.std.proofs.Common.{◌≡◌, ◌++◌, length, map}
use Rattle.wrong_words.specs.Shown.{shown_byte}
use Rattle.wrong_words.proofs.shown.put_bytes.Given as goal

-- what is written and what is left are the whole
abbrev pub invariant-loop-rest : goal.invariant-loop-rest
invariant-loop-rest l = l.text.items ++ map shown_byte l.rest ≡ l.initial.text.items ++ map shown_byte l.bytes

abbrev pub decreases-loop-rest : goal.decreases-loop-rest
decreases-loop-rest l = length l.rest
