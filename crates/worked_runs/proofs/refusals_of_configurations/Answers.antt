use Rattle.std.proofs.Common.{refl}
use Rattle.worked_runs.proofs.Playing.{plays}
use Rattle.worked_runs.proofs.refusals_of_configurations.Goals as goal

pub returns : goal.returns
returns c = plays refl (refl, (refl, (refl, (refl, (refl, (refl, (refl, (refl, (refl, (refl, (refl, (refl, (refl, (refl, (refl, (refl, (refl, (refl, (refl, (refl, (refl, (refl, (refl, (refl, (refl, (refl, (refl, tt))))))))))))))))))))))))))) refl
