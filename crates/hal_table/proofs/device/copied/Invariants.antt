use Rattle.std.proofs.Common.{◌≡◌, take}
use Rattle.hal_table.proofs.device.copied.Given as goal

abbrev pub invariant-loop-entry : goal.invariant-loop-entry
invariant-loop-entry g l = l.same ≡ take l.entry-index l.list
