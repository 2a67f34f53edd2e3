use Rattle.std.proofs.Common.{drop}
use Rattle.std.specs.List.{flat_map}
use Rattle.service_core.specs.Candidates.{all_kinds, ready_in}
use Rattle.service_core.proofs.Walking.{Continues}
use Rattle.service_core.proofs.choice.seek.Given as goal

abbrev pub invariant-loop-kind : goal.invariant-loop-kind
invariant-loop-kind l =
    let f = ready_in l.state.script l.state.parts in
    Continues (flat_map f all_kinds) l.number (flat_map f (drop l.kind-index all_kinds)) l.left
