use Rattle.std.proofs.Common.{◌≡◌, ◌<◌, ◌+◌, true, take}
use Rattle.std.specs.Str.{all_ascii_digits}
use Rattle.std.specs.Str.Parse.{digits_value}
use Rattle.text_parts.proofs.number.digits_up_to.Given as goal

abbrev pub invariant-loop-byte : goal.invariant-loop-byte
invariant-loop-byte l = (all_ascii_digits (take l.byte-index l.word) ≡ true) × (l.value ≡ digits_value 10 (take l.byte-index l.word)) × (l.value < l.greatest + 1)
