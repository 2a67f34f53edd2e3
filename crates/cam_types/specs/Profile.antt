use Rattle.std.specs.Prelude.{ℕ, ◌==◌, ◌+◌, Bool, ◌&&◌, Option, Some, None, nat_le, nat_lt, if◌then◌else◌}
use Rattle.cam_types.specs.declared.profile.Profile.{Profile}
use Rattle.cam_types.specs.declared.stream.Format.{Format}
use Rattle.cam_types.specs.declared.stream.Format.TheVariants.{Raw16, Yuv, Other}
use Rattle.cam_types.specs.declared.stream.StreamSpec.{StreamSpec}
use Rattle.cam_types.specs.Limits.{profile_limit, spare_buffers}

-- The profile of a device (our own choice): how many frames may be open at once, and each stream's max_buffers
-- (camera3.h, camera3_stream).

-- the profile of a script that names none, and of every script of the first version
abbrev pub is_plain : Profile → Bool
is_plain p = (p.depth == 6) && ((p.raw == 3) && (p.yuv == 4))

abbrev pub is_profile_number : ℕ → Bool
is_profile_number n = nat_lt 0 n && nat_le n profile_limit

-- each number is from 1 to 16
abbrev pub is_profile : Profile → Bool
is_profile p = is_profile_number p.depth && (is_profile_number p.raw && is_profile_number p.yuv)

-- a script of the version may have the profile
abbrev pub profile_fits : ℕ → Profile → Bool
profile_fits version p = if version == 1 then is_plain p else ((version == 2) && is_profile p)

-- how many buffers of a stream of the format may be at the device
abbrev pub max_buffers : Profile → Format → ℕ
max_buffers p Raw16 = p.raw
max_buffers p Yuv = p.yuv
max_buffers p (Other _) = 0

abbrev pub max_buffers_of : Profile → Option StreamSpec → ℕ
max_buffers_of p (Some spec) = max_buffers p spec.format
max_buffers_of p None = 0

-- how many buffers a stream of the format has: two more, so that a client can hold two (our own choice)
abbrev pub pool_size : Profile → Format → ℕ
pool_size p format = max_buffers p format + spare_buffers
