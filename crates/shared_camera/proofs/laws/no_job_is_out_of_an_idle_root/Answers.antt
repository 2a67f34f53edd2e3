use Rattle.std.proofs.Common.{[], refl}
use Rattle.shared_camera.proofs.IdleRoots.{none-out}
use Rattle.shared_camera.proofs.laws.no_job_is_out_of_an_idle_root.Goals as goal

pub returns : goal.returns
returns c script h run none = none-out script h [] none refl (c.the_jobs_that_are_out.ensures script h run)
