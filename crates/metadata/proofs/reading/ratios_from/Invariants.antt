use Rattle.std.proofs.Common.{◌≡◌, length}
use Rattle.metadata.specs.Values.{pieces, ratio_of}
use Rattle.metadata.proofs.reading.ratios_from.Given as goal

abbrev pub invariant-loop-i : goal.invariant-loop-i
invariant-loop-i l = record { list : l.list ≡ pieces 8 ratio_of l.i l.bytes; len : length l.list ≡ l.i }
