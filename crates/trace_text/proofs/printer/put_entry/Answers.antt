use Rattle.std.proofs.Common.{arith}
use Rattle.std.proofs.lemmas.Grind.{common_steps}
use Rattle.trace_text.proofs.printer.put_entry.Goals as goal

pub put_call-requires-clause-fits : goal.put_call-requires-clause-fits
put_call-requires-clause-fits c = grind (arith, common_steps)
