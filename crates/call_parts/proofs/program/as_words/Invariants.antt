-- The words so far are those of the texts so far.
use Rattle.std.proofs.Common.{◌≡◌, take}
use Rattle.std.specs.Prelude.{map, string_bytes}
use Rattle.call_parts.proofs.program.as_words.Given as goal

abbrev pub invariant-loop-text : goal.invariant-loop-text
invariant-loop-text l = record { same : map (λ word. word.now) l.words.items ≡ map string_bytes (take l.text-index l.texts) }
