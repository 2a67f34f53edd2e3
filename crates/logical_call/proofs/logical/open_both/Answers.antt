use Rattle.logical_call.proofs.Opening.{valid_without}
use Rattle.logical_call.proofs.logical.open_both.Goals as goal

pub open-requires : goal.open-requires
open-requires c = rw c.in_ok-with_faults.ensures c.requires.valid

pub open-requires-2 : goal.open-requires-2
open-requires-2 c = rw c.in_ok-without.ensures (valid_without c.args.script.now c.requires.valid)
