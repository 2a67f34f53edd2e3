use Rattle.std.proofs.Common.{refl}
use Rattle.worked_runs.proofs.Playing.{plays}
use Rattle.worked_runs.proofs.failed_buffer_keeps_its_fence.Goals as goal

pub returns : goal.returns
returns c = plays refl (refl, (refl, (refl, (refl, (refl, (refl, (refl, (refl, (refl, (refl, (refl, (refl, (refl, (refl, (refl, (refl, (refl, (refl, (refl, (refl, (refl, (refl, (refl, (refl, (refl, (refl, (refl, (refl, tt)))))))))))))))))))))))))))) refl
