use Rattle.std.proofs.Common.{refl}
use Rattle.run_model.specs.declared.step.StepName.TheVariants.{Shutter}
use Rattle.service_core.specs.Answers.{adds}
use Rattle.settle.proofs.Making.{exposure_taken, has_place, taken_on}
use Rattle.settle.proofs.job_steps.expose.Goals as goal

pub put_sensor-requires : goal.put_sensor-requires
put_sensor-requires c =
    record { room = has_place c.args.service.now c.shutter.new.self (adds Shutter c.in-Began.field-0) c.args.hands.now c.in-Began.ensures.made.left c.is_a_run.ensures.run c.is_a_run.ensures.valid c.requires.jobs refl }

pub returns-clause-jobs : goal.returns-clause-jobs
returns-clause-jobs c =
    let begun = c.in-Began.ensures in
    let m = adds Shutter c.in-Began.field-0 in
    let takes = exposure_taken m c.in-Began.job begun.time c.in-Began.field-0 refl begun.shutter begun.exposure in
    taken_on c.args.service.now c.shutter.new.self m c.in-Began.job c.args.hands.now c.put_sensor.new.self begun.made.left c.is_a_run.ensures.run c.requires.jobs takes begun.out c.put_sensor.ensures
