use Rattle.settle.proofs.Finishing.{exposure_ready, fill_ready, first_out}
use Rattle.settle.proofs.job_steps.end_job.Goals as goal

pub end_fill-requires-clause-ready : goal.end_fill-requires-clause-ready
end_fill-requires-clause-ready c =
    let s = c.args.service.now in
    let first = first_out s.script s.history c.args.hands.now c.args.job c.the_first_job_is_found_by_its_frame.ensures c.requires.jobs c.requires.first in
    fill_ready s.script s.history c.args.job c.in-Some.stream first c.in-Some.is

pub end_exposure-requires-clause-ready : goal.end_exposure-requires-clause-ready
end_exposure-requires-clause-ready c =
    let s = c.args.service.now in
    let first = first_out s.script s.history c.args.hands.now c.args.job c.the_first_job_is_found_by_its_frame.ensures c.requires.jobs c.requires.first in
    exposure_ready s.script s.history c.args.job first c.in-None.is
