use Rattle.std.proofs.Common.{◌≡◌, List, Some, refl, inl, inr, subst}
use Rattle.std.proofs.lemmas.Bool.{cases_Bool}
use Rattle.cam_types.specs.declared.job.JobView.{JobView}
use Rattle.fill_jobs.specs.Held.{fill_job_in, held_at, sensor_job_in}
use Rattle.run_model.specs.Jobs.{is_fill_out, is_sensor_out}
use Rattle.run_model.specs.declared.step.StepName.TheVariants.{FillDone, SensorDone}
use Rattle.service_core.specs.Answers.{silent}
use Rattle.settle.proofs.runs.close.Goals as goal

pub scrap-requires : goal.scrap-requires
scrap-requires c =
    let s = c.args.service in
    record {
      sensor = λ n. elim (cases_Bool (is_sensor_out s.history n)) [
        | inl y ↦ (
            let ends = c.jobs_that_end_are_out.ensures.sensor s.script (silent (SensorDone (record { 0 = n }))) s.history c.args.hands (record { 0 = n }) c.is_a_run.ensures.run c.requires.jobs (rw y refl) in
            let none = subst (λ (jobs : List JobView). sensor_job_in (held_at n jobs) ≡ Some ends.0) c.requires.none ends.1 in
            absurd (cc)
            )
        | inr n ↦ n
      ];
      stages = λ n t. elim (cases_Bool (is_fill_out s.history n t)) [
        | inl y ↦ (
            let ends = c.jobs_that_end_are_out.ensures.fill s.script (silent (FillDone (record { 0 = n }) (record { 0 = t }))) s.history c.args.hands (record { 0 = n }) (record { 0 = t }) c.is_a_run.ensures.run c.requires.jobs (rw y refl) in
            let none = subst (λ (jobs : List JobView). fill_job_in t (held_at n jobs) ≡ Some ends.0) c.requires.none ends.1 in
            absurd (cc)
            )
        | inr n ↦ n
      ];
    }
