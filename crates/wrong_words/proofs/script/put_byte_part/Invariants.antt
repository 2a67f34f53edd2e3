use Rattle.std.proofs.Common.{◌≡◌, ◌+◌, ◌≤◌, length}
use Rattle.wrong_words.specs.Refused.{byte_part}
use Rattle.wrong_words.proofs.script.put_byte_part.Given as goal

-- the bytes so far are from space to `~`
abbrev pub invariant-loop-rest : goal.invariant-loop-rest
invariant-loop-rest l = record {
  same : byte_part l.place l.rest ≡ byte_part 1 l.line;
  text : l.text.items ≡ l.initial.text.items;
  place : l.place + length l.rest ≤ 1 + length l.line;
}

abbrev pub decreases-loop-rest : goal.decreases-loop-rest
decreases-loop-rest l = length l.rest
