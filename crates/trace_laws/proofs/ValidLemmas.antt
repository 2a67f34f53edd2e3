-- The bounds of a valid script fit the fields of the entries.
use Rattle.std.proofs.Common.{◌≡◌, ℕ, ◌==◌, ◌*◌, ◌^◌, ◌<◌, ◌≤◌, true, ◌&&◌, List, [], ◌∷◌, arith, inl, inr, length, nat_le, nat_lt, sum_by}
use Rattle.std.specs.List.{list_all, list_any}
use Rattle.std.proofs.lemmas.Bool.{cases_Bool, and_parts}
use Rattle.std.proofs.lemmas.Nat.{mul-le}
use Rattle.std.proofs.lemmas.Bool.Decides.{nat_tests}
use Rattle.std.proofs.lemmas.List.Sums.{sum_by-cons}
use Rattle.cam_types.specs.Limits.{awaited_limit, command_limit, fault_limit, pick_limit}
use Rattle.cam_types.specs.Script.{awaited_by, command_fits, is_closing_command, is_valid, item_fits}
use Rattle.cam_types.specs.Profile.{profile_fits, is_profile_number}
use Rattle.cam_types.specs.declared.script.Command.{Command}
use Rattle.cam_types.specs.declared.script.Command.TheVariants.{Once, Burst}
use Rattle.cam_types.specs.declared.profile.Profile.{Profile}
use Rattle.cam_types.specs.declared.script.Script.{Script}
use Rattle.trace_laws.proofs.BufferLemmas.{most}
use Rattle.trace_laws.specs.Bounds.{buffer_bound, configuration_bound, early_bound, fence_bound, frame_bound, queued_by, time_bound}

pub at-most : (n m : ℕ) → nat_le n m ≡ true → n ≤ m
at-most n m h = grind (arith, nat_tests, h)

profile-most : (version : ℕ) (p : Profile) → profile_fits version p ≡ true → most p ≤ 16
profile-most version p h =
    elim (cases_Bool (version == 1)) [
      | inl one ↦ (
          let h' = rw one at h in
          let sizes = and_parts (p.depth == 6) ((p.raw == 3) && (p.yuv == 4)) h' in
          let both = and_parts (p.raw == 3) (p.yuv == 4) sizes.1 in
          let raw = both.0 in
          let yuv = both.1 in
          grind (arith, nat_tests, raw, yuv)
          )
      | inr no' ↦ (
          let h' = rw no' at h in
          let all = (and_parts (version == 2) (is_profile_number p.depth && (is_profile_number p.raw && is_profile_number p.yuv)) h').1 in
          let sizes = (and_parts (is_profile_number p.depth) (is_profile_number p.raw && is_profile_number p.yuv) all).1 in
          let both = and_parts (is_profile_number p.raw) (is_profile_number p.yuv) sizes in
          let raw = at-most p.raw 16 (and_parts (nat_lt 0 p.raw) (nat_le p.raw 16) both.0).1 in
          let yuv = at-most p.yuv 16 (and_parts (nat_lt 0 p.yuv) (nat_le p.yuv 16) both.1).1 in
          grind (arith, raw, yuv)
          )
    ]

-- what a valid script is, part by part
pub record Valid (s : Script) : Type 0 where
  pub profile : most s.profile ≤ 16
  pub commands : length s.commands ≤ 512
  pub fit : list_all command_fits s.commands ≡ true
  pub awaited : sum_by awaited_by s.commands ≤ 16384

pub valid : (s : Script) → is_valid s ≡ true → Valid s
valid s h =
    let fifth = nat_le (sum_by awaited_by s.commands) awaited_limit && list_any is_closing_command s.commands in
    let fourth = list_all command_fits s.commands && fifth in
    let third = nat_le (length s.commands) command_limit && fourth in
    let second = nat_le (length s.picks) pick_limit && third in
    let first = nat_le (length s.faults) fault_limit && second in
    let p = and_parts (profile_fits s.version s.profile) first h in
    let a = and_parts (nat_le (length s.faults) fault_limit) second p.1 in
    let b = and_parts (nat_le (length s.picks) pick_limit) third a.1 in
    let c = and_parts (nat_le (length s.commands) command_limit) fourth b.1 in
    let d = and_parts (list_all command_fits s.commands) fifth c.1 in
    let e = and_parts (nat_le (sum_by awaited_by s.commands) awaited_limit) (list_any is_closing_command s.commands) d.1 in
    record { profile = profile-most s.version s.profile p.0; commands = at-most (length s.commands) command_limit c.0; fit = d.0; awaited = at-most (sum_by awaited_by s.commands) awaited_limit e.0 }

pub queues_few : (c : Command) → command_fits c ≡ true → queued_by c ≤ 32
queues_few (Once item) h = omega arith
queues_few (Burst items) h = at-most (length items) 32 (and_parts (nat_le (length items) 32) (list_all item_fits items) h).0
queues_few c h = omega arith

pub queue_few : (cs : List Command) → list_all command_fits cs ≡ true → sum_by queued_by cs ≤ 32 * length cs
queue_few [] h = omega arith
queue_few (c ∷ cs) h =
    let parts = and_parts (command_fits c) (list_all command_fits cs) h in
    let one = queues_few c parts.0 in
    let ih = queue_few cs parts.1 in
    let sum = sum_by-cons queued_by c cs in
    omega (arith, one, ih, sum)

pub few-frames : (s : Script) → Valid s → frame_bound s ≤ 65664
few-frames s v = let few = queue_few s.commands v.fit in omega (arith, few, v.commands, v.awaited)

few-buffers : (s : Script) → Valid s → buffer_bound s ≤ 36864
few-buffers s v =
    let each = v.profile in
    let all = mul-le (configuration_bound s) (length s.commands) 72 512 (omega (arith, each)) v.commands in
    steps _ all
  where
    steps : (a : ℕ) → a ≤ 72 * 512 → a ≤ 36864
    steps a l = omega (arith, l)

pub bounds_most : (s : Script) → is_valid s ≡ true → (frame_bound s ≤ 65664) × (fence_bound s ≤ 262656) × (early_bound s ≤ 262656) × (buffer_bound s ≤ 36864) × (time_bound s ≤ 6567400000000)
bounds_most s h =
    let v = valid s h in
    let few = few-frames s v in
    (few, omega (arith, few), omega (arith, few), few-buffers s v, omega (arith, few))

pub bounds_fit : (s : Script) → is_valid s ≡ true → (frame_bound s < 2 ^ 32) × (fence_bound s < 2 ^ 32) × (early_bound s < 2 ^ 32) × (buffer_bound s < 2 ^ 32) × (time_bound s < 2 ^ 63)
bounds_fit s h =
    let v = valid s h in
    let few = few-frames s v in
    (omega (arith, few), omega (arith, few), omega (arith, few), less _ (few-buffers s v), omega (arith, few))
  where
    less : (a : ℕ) → a ≤ 36864 → a < 2 ^ 32
    less a l = omega (arith, l)
