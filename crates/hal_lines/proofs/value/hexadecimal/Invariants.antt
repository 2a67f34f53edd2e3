use Rattle.std.proofs.Common.{◌≡◌, ◌<◌, ◌^◌, take}
use Rattle.std.specs.Str.Parse.{digits_value}
use Rattle.hal_lines.proofs.value.hexadecimal.Given as goal

abbrev pub invariant-loop-byte : goal.invariant-loop-byte
invariant-loop-byte l = record {
  same : l.value ≡ digits_value 16 (take l.byte-index l.word);
  small : l.value < 16 ^ l.byte-index;
}
