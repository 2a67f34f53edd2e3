use Rattle.std.proofs.Common.{◌≡◌, count_by, take}
use Rattle.wrong_words.proofs.lines.count.Given as goal

abbrev pub invariant-loop-entry : goal.invariant-loop-entry
invariant-loop-entry g l = l.count ≡ count_by (g.C.Choice.test l.choice) (take l.entry-index l.entries)
