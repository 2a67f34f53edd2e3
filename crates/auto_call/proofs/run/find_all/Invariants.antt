use Rattle.auto_call.proofs.Steps.{Going}
use Rattle.auto_call.proofs.run.find_all.Given as goal

abbrev pub invariant-loop-number : goal.invariant-loop-number
invariant-loop-number l = Going l.text l.number l.found.lines l.found.shots
