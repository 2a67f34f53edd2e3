-- The plan of a configuration that is accepted.
use Rattle.std.proofs.Common.{◌≡◌, ℕ, ◌==◌, Bool, true, false, ◌&&◌, if◌then◌else◌, List, [], ◌∷◌, ◌++◌, map, Option, Some, None, option_to_list, refl, ap, ◌∙◌, arith}
use Rattle.std.specs.Prelude.{slice_get}
use Rattle.std.specs.List.{list_all}
use Rattle.std.specs.Option.{option_map}
use Rattle.std.proofs.lemmas.Bool.{and_parts}
use Rattle.std.proofs.lemmas.Bool.Decides.{nat_tests}
use Rattle.buffer_pool.specs.Blocks.{block_length}
use Rattle.cam_types.specs.Picture.{is_offered}
use Rattle.cam_types.specs.declared.profile.Profile.{Profile}
use Rattle.cam_types.specs.declared.stream.StreamSpec.{StreamSpec}
use Rattle.device_core.specs.Stored.{spec_of, specs_of}
use Rattle.hal_device_model.specs.Calls.{configured}
use Rattle.hal_device_model.specs.State.{HalDeviceState, spare_for, spares_for}
use Rattle.hal_device.specs.Kept.{are_offered, are_packed, are_sized, is_offered_at, is_sized, place_at, spare_by, spares_by, with_plan_and}
use Rattle.request_checks.specs.Plan.{plan_of, plan_stream}
use Rattle.request_checks.specs.declared.plan.Plan.{Plan}
use Rattle.request_checks.specs.declared.plan.PlanStream.{PlanStream}
use Rattle.cam_types.specs.Four.{four_list}
use Rattle.hal_device.proofs.Fours.{all-four}
use Rattle.basic_lemmas.proofs.Lists.{all-at, all-mapped}
use Rattle.basic_lemmas.proofs.Tests.{own-number}

pub offered_all : (plan : Plan) → are_offered plan ≡ true → list_all is_offered (specs_of plan) ≡ true
offered_all plan h =
    all-mapped is_offered spec_of (four_list plan.streams)
    ∙ all-four is_offered_at (λ (s : PlanStream). is_offered (spec_of s)) (λ s g. g) plan.streams.a plan.streams.b plan.streams.c plan.streams.d h

-- ---- the plan of accepted streams

offered-one : (profile : Profile) (specs : List StreamSpec) (k : ℕ) → list_all is_offered specs ≡ true → (o : Option StreamSpec) → slice_get specs k ≡ o → is_offered_at (option_map (plan_stream profile) o) ≡ true
offered-one profile specs k all None at = refl
offered-one profile specs k all (Some spec) at = all-at is_offered specs k spec all at

pub plan_offered : (profile : Profile) (specs : List StreamSpec) → list_all is_offered specs ≡ true → are_offered (plan_of profile specs) ≡ true
plan_offered profile specs all =
    rw (offered-one profile specs 0 all (slice_get specs 0) refl, offered-one profile specs 1 all (slice_get specs 1) refl, offered-one profile specs 2 all (slice_get specs 2) refl, offered-one profile specs 3 all (slice_get specs 3) refl) refl

pub plan_packed : (profile : Profile) (specs : List StreamSpec) → are_packed (plan_of profile specs) ≡ true
plan_packed profile [] = refl
plan_packed profile (w ∷ []) = refl
plan_packed profile (w ∷ x ∷ []) = refl
plan_packed profile (w ∷ x ∷ y ∷ []) = refl
plan_packed profile (w ∷ x ∷ y ∷ z ∷ specs) = refl

sized-one : (o : Option PlanStream) → is_sized o (spare_by o) ≡ true
sized-one (Some s) = own-number (block_length s.spec.format)
sized-one None = refl

pub sized_all : (plan : Plan) → are_sized plan (spares_by plan) ≡ true
sized_all plan = rw (sized-one plan.streams.a, sized-one plan.streams.b, sized-one plan.streams.c, sized-one plan.streams.d) refl

spare-one : (profile : Profile) (o : Option StreamSpec) → spare_by (option_map (plan_stream profile) o) ≡ spare_for profile o
spare-one profile (Some spec) = refl
spare-one profile None = refl

pub plan_spares : (profile : Profile) (specs : List StreamSpec) → spares_by (plan_of profile specs) ≡ spares_for profile specs
plan_spares profile specs = rw (spare-one profile (slice_get specs 0), spare-one profile (slice_get specs 1), spare-one profile (slice_get specs 2), spare-one profile (slice_get specs 3)) refl

-- the device with such a plan
pub plan_state : (s : HalDeviceState) (profile : Profile) (specs : List StreamSpec) (plan : Plan) → s.profile ≡ profile → plan ≡ plan_of profile specs → with_plan_and (spares_by plan) plan s ≡ configured specs s
plan_state s profile specs plan of is = rw (of, is, plan_spares profile specs) refl

-- ---- a stream of the plan is offered

pub place_offered : (plan : Plan) (s : ℕ) (stream : PlanStream) → are_offered plan ≡ true → Some stream ≡ place_at s plan → is_offered stream.spec ≡ true
place_offered plan s stream h at =
    let p = plan.streams in
    let l = and_parts (is_offered_at p.a && is_offered_at p.b) (is_offered_at p.c && is_offered_at p.d) h in
    let u = and_parts (is_offered_at p.a) (is_offered_at p.b) l.0 in
    let v = and_parts (is_offered_at p.c) (is_offered_at p.d) l.1 in
    by (s == 0) (s == 1) (s == 2) (s == 3) u.0 u.1 v.0 v.1 at
  where
    own : (o : Option PlanStream) → is_offered_at o ≡ true → Some stream ≡ o → is_offered stream.spec ≡ true
    own o g is = (let k : is_offered_at (Some stream) ≡ true = ap is_offered_at is ∙ g in k)

    by : (a b c d : Bool) → is_offered_at plan.streams.a ≡ true → is_offered_at plan.streams.b ≡ true → is_offered_at plan.streams.c ≡ true → is_offered_at plan.streams.d ≡ true → Some stream ≡ (if a then plan.streams.a else (if b then plan.streams.b else (if c then plan.streams.c else (if d then plan.streams.d else None)))) → is_offered stream.spec ≡ true
    by true b c d ga gb gc gd is = own plan.streams.a ga is
    by false true c d ga gb gc gd is = own plan.streams.b gb is
    by false false true d ga gb gc gd is = own plan.streams.c gc is
    by false false false true ga gb gc gd is = own plan.streams.d gd is
    by false false false false ga gb gc gd is = absurd (cc)
