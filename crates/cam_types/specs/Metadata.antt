use Rattle.std.specs.Prelude.{ℕ, ◌==◌, Bool, ◌&&◌, not, nat_le, Option, Some, None, if◌then◌else◌}
use Rattle.cam_types.specs.declared.item.Settings.{Settings}
use Rattle.cam_types.specs.declared.partial_result.PartialResult.{PartialResult}
use Rattle.cam_types.specs.declared.partial_result.PartialResult.TheVariants.{Look, Light, Time}

-- The metadata of requests and results: our own choice. The tags are vendor tags, from 0x80000000 on.
abbrev pub pattern_tag : ℕ
pattern_tag = 0x80000000

abbrev pub level_tag : ℕ
level_tag = 0x80000001

abbrev pub exposure_tag : ℕ
exposure_tag = 0x80000002

abbrev pub sensitivity_tag : ℕ
sensitivity_tag = 0x80000003

abbrev pub timestamp_tag : ℕ
timestamp_tag = 0x80000004

-- which settings a request may have: three patterns, levels up to 255, 0.1 to 100 ms, ISO 100 to 1600
abbrev pub is_pattern : ℕ → Bool
is_pattern pattern = nat_le pattern 2

abbrev pub is_level : ℕ → Bool
is_level level = nat_le level 255

abbrev pub is_exposure : ℕ → Bool
is_exposure exposure = nat_le 100000 exposure && nat_le exposure 100000000

abbrev pub is_sensitivity : ℕ → Bool
is_sensitivity iso = nat_le 100 iso && nat_le iso 1600

-- the least tag whose value is out of its range
abbrev pub range_fault : Settings → Option ℕ
range_fault s =
    if not (is_pattern s.pattern) then Some pattern_tag
    else (if not (is_level s.level) then Some level_tag
    else (if not (is_exposure s.exposure) then Some exposure_tag
    else (if not (is_sensitivity s.iso) then Some sensitivity_tag
    else None)))

-- part k of the metadata of a frame with these settings and this shutter time, for k from 1 to 3
abbrev pub part_at : ℕ → Settings → ℕ → PartialResult
part_at k s time = if k == 1 then Look s.pattern s.level else (if k == 2 then Light s.exposure s.iso else Time time)
