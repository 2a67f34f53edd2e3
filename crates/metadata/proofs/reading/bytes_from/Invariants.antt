use Rattle.std.proofs.Common.{◌≡◌, take}
use Rattle.metadata.proofs.reading.bytes_from.Given as goal

abbrev pub invariant-loop-byte : goal.invariant-loop-byte
invariant-loop-byte l = l.list ≡ take l.byte-index l.bytes
