use Rattle.std.proofs.Common.{ap, sym, ◌∙◌}
use Rattle.cam_types.specs.declared.job.JobView.{JobView}
use Rattle.cam_types.specs.declared.number.FrameNo.{FrameNo}
use Rattle.run_model.specs.declared.step.StepName.TheVariants.{SensorDone}
use Rattle.fill_jobs.specs.Held.{held_at}
use Rattle.service_core.specs.Answers.{silent}
use Rattle.settle.proofs.Making.{exposure_in, exposure_of, jobs_on, ready_move, run_on, worked_out}
use Rattle.settle.proofs.job_steps.end_exposure.Goals as goal

pub unreachable-requires : goal.unreachable-requires
unreachable-requires c =
    let old = c.args.service.now in
    let ready = ready_move old.script old.history (SensorDone c.args.frame) c.requires.ready in
    let ends = c.jobs_that_end_are_out.ensures.sensor old.script ready.0 old.history c.args.hands.now c.args.frame c.is_a_run.ensures.run c.requires.jobs ready.1 in
    let both = sym ends.1 ∙ (sym c.take_sensor.ensures.value ∙ c.in-None.is) in
    absurd (cc)

pub sensor_done-requires : goal.sensor_done-requires
sensor_done-requires c =
    let held = exposure_in (held_at c.args.frame.0 c.args.hands.now) c.in-Some.job (sym c.take_sensor.ensures.value ∙ c.in-Some.is) in
    worked_out c.args.service.now.script c.args.service.now.history c.expose.result c.in-Some.job c.expose.ensures (c.requires.jobs.held c.args.frame.0 c.in-Some.job held)

pub returns-clause-made : goal.returns-clause-made
returns-clause-made c =
    let job = c.in-Some.job in
    let frame = ap (λ (j : JobView). j.frame) c.expose.ensures ∙ exposure_of c.args.hands.now job c.args.frame (sym c.take_sensor.ensures.value ∙ c.in-Some.is) in
    record { move = silent (SensorDone c.expose.result.frame); of = ap (λ (n : FrameNo). SensorDone n) frame; made = c.sensor_done.ensures }

pub returns-clause-jobs : goal.returns-clause-jobs
returns-clause-jobs c =
    let old = c.args.service.now in
    let new = c.sensor_done.new.self in
    let job = c.in-Some.job in
    let value = sym c.take_sensor.ensures.value ∙ c.in-Some.is in
    let frame = ap (λ (j : JobView). j.frame) c.expose.ensures ∙ exposure_of c.args.hands.now job c.args.frame value in
    let m = silent (SensorDone c.expose.result.frame) in
    let left = c.sensor_done.ensures.left in
    let run = run_on old new m left c.is_a_run-in-Some.ensures.run in
    jobs_on old new m c.take_sensor.new.self left (c.a_move_gives_a_job_back.ensures.sensor old.script m old.history c.args.hands.now c.take_sensor.new.self job c.args.frame run c.requires.jobs (ap (λ (n : FrameNo). SensorDone n) frame) value c.in-Some.ensures.taken)
