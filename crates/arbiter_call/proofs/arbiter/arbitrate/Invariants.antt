use Rattle.arbiter_call.proofs.Closing.{IsAnswered}
use Rattle.arbiter_call.proofs.arbiter.arbitrate.Given as goal

abbrev pub invariant-loop-line : goal.invariant-loop-line
invariant-loop-line l = IsAnswered l.cameras l.lines l.line-index l.arbiter
