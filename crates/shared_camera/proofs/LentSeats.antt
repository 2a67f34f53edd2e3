-- Seats that are lent: idle before a turn, or before two between which a job is worked on, and idle again.
use Rattle.std.proofs.Common.{◌≡◌, List, [], ◌∷◌, sym, ap, ◌∙◌, subst, Contains, IsPermutation}
use Rattle.cam_types.specs.declared.job.JobView.{JobView}
use Rattle.turn_lock.proofs.ForCallers.{has_it, has_none}

-- a job that was handed out is the seat's, also once it was worked on
pub has-job : (job worked : JobView) (before after : List JobView) → worked ≡ job → IsPermutation after (job ∷ before) → Contains after worked
has-job job worked before after same p = subst (λ (j : JobView). Contains after j) (sym same) (has_it job before after p)

-- and once it is given back, the seat has no other
pub has-no-job : (job worked : JobView) (before between after : List JobView) → worked ≡ job → IsPermutation between (job ∷ before) → before ≡ [] → IsPermutation between (worked ∷ after) → after ≡ []
has-no-job job worked before between after same p e q = has_none job before between after p e (subst (λ (j : JobView). IsPermutation between (j ∷ after)) same q)
