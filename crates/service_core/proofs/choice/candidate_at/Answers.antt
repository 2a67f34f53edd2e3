use Rattle.std.proofs.Common.{arith, sym}
use Rattle.std.proofs.lemmas.Option.{slice_get_past}
use Rattle.service_core.specs.Candidates.{candidates_by}
use Rattle.service_core.proofs.choice.candidate_at.Goals as goal

pub returns-in-Err : goal.returns-in-Err
returns-in-Err c =
    let s = c.args.state.now in
    let past = c.in-Err.ensures in
    sym (slice_get_past (candidates_by s.script s.parts) c.args.number (omega (arith, past)))
