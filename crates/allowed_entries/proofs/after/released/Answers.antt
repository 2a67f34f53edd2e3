use Rattle.std.proofs.Common.{arith, reverse}
use Rattle.allowed_entries.proofs.Valid.{few_fences}
use Rattle.allowed_entries.proofs.after.released.Goals as goal

pub overflow_cast-result : goal.overflow_cast-result
overflow_cast-result c =
    let few = few_fences c.args.script.now (reverse c.args.entries.now) c.every_script_is_typed.ensures c.requires.valid c.requires.legal in
    omega (arith, c.next_fence.ensures, few)
