use Rattle.std.proofs.Common.{arith}
use Rattle.std.proofs.lemmas.Option.{slice_get_within}
use Rattle.service_core.specs.Candidates.{candidates_by}
use Rattle.service_core.proofs.choice.candidate_count.Goals as goal

pub unreachable-requires : goal.unreachable-requires
unreachable-requires c =
    let s = c.args.state.now in
    let within = slice_get_within (candidates_by s.script s.parts) c.most_steps-most.result _ c.in-Ok.ensures in
    let few = c.most_steps-most.ensures in
    omega (arith, within, few)
