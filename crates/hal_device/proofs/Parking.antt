-- The buffers that are made for a request's targets are theirs.
use Rattle.std.proofs.Common.{◌≡◌, ℕ, true, ◌&&◌, List, Option, Some, None, ap, ◌∙◌}
use Rattle.std.specs.Prelude.{slice_get}
use Rattle.std.specs.Option.{option_map}
use Rattle.std.proofs.lemmas.Bool.{and_parts, eqb-true}
use Rattle.buffer_pool.specs.declared.parked.Parked.{Parked}
use Rattle.cam_types.specs.declared.four.Four.{Four}
use Rattle.cam_types.specs.declared.row.TargetView.{TargetView}
use Rattle.cam_types.specs.declared.stream.StreamSpec.{StreamSpec}
use Rattle.device_core.specs.Stored.{AreParked, IsParkedAt, spec_of, specs_of}
use Rattle.request_checks.specs.declared.plan.Plan.{Plan}
use Rattle.request_checks.specs.declared.plan.PlanStream.{PlanStream}
use Rattle.hal_device.specs.Kept.{IsParkedBy, are_in_place, are_packed, is_placed_at}
use Rattle.hal_device.proofs.Plans.{spec_0, spec_1, spec_2, spec_3}

parked-one : (specs : List StreamSpec) (k : ℕ) (stream : Option PlanStream) (target : Option TargetView) (parked : Option Parked) → slice_get specs k ≡ option_map spec_of stream → is_placed_at k target ≡ true → IsParkedBy stream target parked → IsParkedAt specs target parked
parked-one specs k (Some stream) (Some t) (Some p) at place h =
    let same : t.stream.0 ≡ k = eqb-true t.stream.0 k place in
    let here : slice_get specs t.stream.0 ≡ Some stream.spec = ap (λ (i : ℕ). slice_get specs i) same ∙ at in
    rw here h
parked-one specs k (Some stream) (Some t) None at place h = absurd h
parked-one specs k (Some stream) None (Some p) at place h = absurd h
parked-one specs k (Some stream) None None at place h = tt
parked-one specs k None (Some t) (Some p) at place h = absurd h
parked-one specs k None (Some t) None at place h = absurd h
parked-one specs k None None (Some p) at place h = absurd h
parked-one specs k None None None at place h = tt

pub parked_all : (plan : Plan) (targets : Four TargetView) (a b c d : Option Parked) → are_packed plan ≡ true → are_in_place targets ≡ true → IsParkedBy plan.streams.a targets.a a → IsParkedBy plan.streams.b targets.b b → IsParkedBy plan.streams.c targets.c c → IsParkedBy plan.streams.d targets.d d → AreParked (specs_of plan) targets (record { a = a; b = b; c = c; d = d })
parked_all plan targets a b c d packed place ha hb hc hd =
    let p = plan.streams in
    let l = and_parts (is_placed_at 0 targets.a && is_placed_at 1 targets.b) (is_placed_at 2 targets.c && is_placed_at 3 targets.d) place in
    let u = and_parts (is_placed_at 0 targets.a) (is_placed_at 1 targets.b) l.0 in
    let v = and_parts (is_placed_at 2 targets.c) (is_placed_at 3 targets.d) l.1 in
    record {
      a = parked-one (specs_of plan) 0 p.a targets.a a (spec_0 p.a p.b p.c p.d packed) u.0 ha;
      b = parked-one (specs_of plan) 1 p.b targets.b b (spec_1 p.a p.b p.c p.d packed) u.1 hb;
      c = parked-one (specs_of plan) 2 p.c targets.c c (spec_2 p.a p.b p.c p.d packed) v.0 hc;
      d = parked-one (specs_of plan) 3 p.d targets.d d (spec_3 p.a p.b p.c p.d packed) v.1 hd;
    }
