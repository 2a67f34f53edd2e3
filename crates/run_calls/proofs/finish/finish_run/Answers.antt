use Rattle.std.proofs.Common.{List, IsPermutation, subst}
use Rattle.cam_types.specs.declared.job.JobView.{JobView}
use Rattle.shared_camera.specs.JobsOut.{jobs_out}
use Rattle.turn_lock.specs.Seats.{fixed_of, view}
use Rattle.shared_camera.specs.Cameras.{script_of}
use Rattle.run_calls.proofs.Finishing.{ends-seen}
use Rattle.run_calls.proofs.finish.finish_run.Goals as goal
use Rattle.call_parts.specs.Status.{status_number}

pub settle_and_write-requires : goal.settle_and_write-requires
settle_and_write-requires g c =
    let service = c.close-service.result in
    c.no_job_is_out_of_an_idle_root.ensures service.script service.history c.is_a_run.ensures.run (subst (λ (js : List JobView). IsPermutation (jobs_out service.script service.history) js) c.run_workers.ensures.root.0.1 c.close-service.ensures.jobs)

pub returns : goal.returns
returns g c =
    let service = c.close-service.result in
    ends-seen c.args.writer.now (fixed_of script_of c.args.shared.turnstile) service.script (view c.args.root).seen (view c.run_workers.new.root).seen service.history (status_number c.settle_and_write.result) (g.K.Sink.state c.args.sink.now) (g.K.Sink.state c.settle_and_write.new.sink) c.close-service.ensures.script c.close-service.ensures.history c.run_workers.ensures.root.3 c.settle_and_write.ensures
