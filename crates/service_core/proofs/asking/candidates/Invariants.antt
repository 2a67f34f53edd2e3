use Rattle.std.proofs.Common.{◌≡◌, take}
use Rattle.service_core.specs.Candidates.{candidates_by}
use Rattle.service_core.proofs.asking.candidates.Given as goal

-- the candidates below the number are listed
abbrev pub invariant-loop-number : goal.invariant-loop-number
invariant-loop-number l = l.steps.items ≡ take l.number (candidates_by l.state.script l.state.parts)
