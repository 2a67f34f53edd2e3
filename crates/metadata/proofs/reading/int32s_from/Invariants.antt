use Rattle.std.proofs.Common.{◌≡◌, length}
use Rattle.metadata.specs.Values.{pieces, int32_of}
use Rattle.metadata.proofs.reading.int32s_from.Given as goal

abbrev pub invariant-loop-i : goal.invariant-loop-i
invariant-loop-i l = record { list : l.list ≡ pieces 4 int32_of l.i l.bytes; len : length l.list ≡ l.i }
