use Rattle.std.proofs.Common.{◌≡◌, [], arith, sym}
use Rattle.std.proofs.lemmas.Bool.Decides.{nat_tests}
use Rattle.hal_row.specs.Given.{buffers_of}
use Rattle.hal_row.proofs.Given.{empty-is, targets_kept}
use Rattle.hal_row.proofs.target.note_targets.Goals as goal

pub returns-else-not-is_empty : goal.returns-else-not-is_empty
returns-else-not-is_empty c =
    let none : buffers_of c.args.frame c.args.event.now ≡ [] = rw (← c.buffers_of-buffers.ensures) (empty-is c.buffers_of-buffers.result.now (grind (arith, nat_tests))) in
    sym (targets_kept c.args.frame c.args.flushing c.args.event.now c.args.targets.now none)
