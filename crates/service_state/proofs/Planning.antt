-- The plan of streams that aren't refused has offered streams alone.
use Rattle.std.proofs.Common.{◌≡◌, ◌≤◌, ◌∙◌, true, List, [], ◌∷◌, refl, ap, length, map}
use Rattle.std.specs.List.{list_all}
use Rattle.cam_types.specs.Four.{four_list}
use Rattle.cam_types.specs.Picture.{is_offered}
use Rattle.cam_types.specs.declared.profile.Profile.{Profile}
use Rattle.cam_types.specs.declared.stream.StreamSpec.{StreamSpec}
use Rattle.device_core.specs.Stored.{spec_of, specs_of}
use Rattle.request_checks.specs.Plan.{plan_of, plan_stream}
use Rattle.request_checks.specs.declared.plan.Plan.{Plan}
use Rattle.request_checks.proofs.InOrder.{in-order}

each-planned : (p : Profile) (specs : List StreamSpec) → map spec_of (map (plan_stream p) specs) ≡ specs
each-planned p [] = refl
each-planned p (spec ∷ specs) = ap (λ rest. spec ∷ rest) (each-planned p specs)

-- the streams of a plan of at most four are those that were planned
pub planned_specs : (p : Profile) (specs : List StreamSpec) → length specs ≤ 4 → specs_of (plan_of p specs) ≡ specs
planned_specs p specs few = ap (map spec_of) (in-order p specs few) ∙ each-planned p specs

pub plan_offered : (p : Profile) (specs : List StreamSpec) (plan : Plan) → four_list plan.streams ≡ map (plan_stream p) specs → list_all is_offered specs ≡ true → list_all is_offered (specs_of plan) ≡ true
plan_offered p specs plan order all = rw (order, each-planned p specs) all
