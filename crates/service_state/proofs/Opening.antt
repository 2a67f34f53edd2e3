-- What the profile and the faults of a valid script are.
use Rattle.std.proofs.Common.{◌≡◌, ℕ, ◌==◌, ◌<◌, ◌≤◌, true, ◌&&◌, inl, inr, refl, length, nat_le, nat_lt}
use Rattle.std.specs.Prelude.{IsTrue}
use Rattle.std.proofs.lemmas.Bool.{and_parts, cases_Bool, eqb-true, leb-true, ltb-true}
use Rattle.cam_types.specs.Limits.{fault_limit}
use Rattle.cam_types.specs.Profile.{is_profile, is_profile_number, profile_fits}
use Rattle.cam_types.specs.Script.{is_valid}
use Rattle.cam_types.specs.declared.profile.Profile.{Profile}
use Rattle.cam_types.specs.declared.script.Script.{Script}

each_fits : (version : ℕ) (p : Profile) → profile_fits version p ≡ true → is_profile p ≡ true
each_fits version p h = elim (cases_Bool (version == 1)) [
  | inl one ↦ (
      let plain = rw one at h in
      let sizes = and_parts (p.depth == 6) ((p.raw == 3) && (p.yuv == 4)) plain in
      let both = and_parts (p.raw == 3) (p.yuv == 4) sizes.1 in
      rw (eqb-true p.depth 6 sizes.0, eqb-true p.raw 3 both.0, eqb-true p.yuv 4 both.1) refl
      )
  | inr other ↦ (and_parts (version == 2) (is_profile p) (rw other at h)).1
]

pub profile_of : (script : Script) → IsTrue (is_valid script) → IsTrue (is_profile script.profile)
profile_of script h = each_fits script.version script.profile (and_parts (profile_fits script.version script.profile) _ h).0

pub depth_of : (script : Script) → IsTrue (is_valid script) → (0 < script.profile.depth) × (script.profile.depth ≤ 16)
depth_of script h =
    let p = script.profile in
    let number = (and_parts (is_profile_number p.depth) (is_profile_number p.raw && is_profile_number p.yuv) (profile_of script h)).0 in
    let both = and_parts (nat_lt 0 p.depth) (nat_le p.depth 16) number in
    (ltb-true 0 p.depth both.0, leb-true p.depth 16 both.1)

pub few_faults : (script : Script) → IsTrue (is_valid script) → length script.faults ≤ 64
few_faults script h =
    leb-true (length script.faults) 64 (and_parts (nat_le (length script.faults) fault_limit) _ (and_parts (profile_fits script.version script.profile) _ h).1).0
