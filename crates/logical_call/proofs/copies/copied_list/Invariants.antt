-- The entries so far are copied.
use Rattle.std.proofs.Common.{◌≡◌, take}
use Rattle.logical_call.proofs.copies.copied_list.Given as goal

abbrev pub invariant-loop-entry : goal.invariant-loop-entry
invariant-loop-entry g l = l.copy ≡ take l.entry-index l.list
