use Rattle.std.proofs.Common.{arith}
use Rattle.std.proofs.lemmas.Grind.{common_steps}
use Rattle.run_views.proofs.timeline.show_parts.Goals as goal

pub show_text-requires-clause-long : goal.show_text-requires-clause-long
show_text-requires-clause-long c = grind (arith, common_steps)
