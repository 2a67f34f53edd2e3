use Rattle.std.proofs.Common.{◌≡◌, ◌≤◌, List, [], ◌∷◌, length, map, refl, arith}
use Rattle.cam_types.specs.Four.{four_list}
use Rattle.cam_types.specs.declared.profile.Profile.{Profile}
use Rattle.cam_types.specs.declared.stream.StreamSpec.{StreamSpec}
use Rattle.request_checks.specs.Plan.{plan_of, plan_stream}

-- the plan of up to four streams has each of them
pub in-order : (profile : Profile) (specs : List StreamSpec) → length specs ≤ 4 → four_list (plan_of profile specs).streams ≡ map (plan_stream profile) specs
in-order profile [] few = refl
in-order profile (_ ∷ []) few = refl
in-order profile (_ ∷ _ ∷ []) few = refl
in-order profile (_ ∷ _ ∷ _ ∷ []) few = refl
in-order profile (_ ∷ _ ∷ _ ∷ _ ∷ []) few = refl
in-order profile (_ ∷ _ ∷ _ ∷ _ ∷ _ ∷ _) few = absurd (omega arith)
