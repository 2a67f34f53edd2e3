use Rattle.std.specs.Prelude.{◌≡◌, ℕ, ◌≤◌, List, Option, Some, None, true, length, take}
use Rattle.cam_types.specs.declared.stream.StreamSpec.{StreamSpec}
use Rattle.reprocess_model.specs.Plan.{is_yuv}

-- the first bytes of a block are those of a picture
abbrev pub Shows : Option (List ℕ) → List ℕ → Type 0
Shows (Some block) picture = take (length picture) block ≡ picture
Shows None picture = ⊥

-- a picture of the one can be made of one of the other: both are YUV, and it has no more columns
abbrev pub CanBeMade : StreamSpec → StreamSpec → Type 0
CanBeMade from to = (is_yuv from ≡ true) × (is_yuv to ≡ true) × (to.width ≤ from.width)
