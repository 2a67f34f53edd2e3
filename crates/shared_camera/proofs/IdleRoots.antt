-- A root without jobs.
use Rattle.std.proofs.Common.{◌≡◌, List, [], subst, IsPermutation}
use Rattle.cam_types.specs.declared.job.JobView.{JobView}
use Rattle.cam_types.specs.declared.script.Script.{Script}
use Rattle.service_parts.specs.Outs.{AreOut}
use Rattle.run_model.specs.declared.step.Move.{Move}
use Rattle.shared_camera.specs.JobsOut.{jobs_out}
use Rattle.turn_lock.proofs.ForCallers.{idle}

-- no job is out where the list of those that are out is empty
pub none-out : (script : Script) (h : List Move) (jobs : List JobView) → IsPermutation (jobs_out script h) jobs → jobs ≡ [] → AreOut script h (jobs_out script h) → AreOut script h []
none-out script h jobs p none out = subst (λ (js : List JobView). AreOut script h js) (idle jobs (jobs_out script h) p none) out
