use Rattle.std.proofs.Common.{◌≡◌, ℕ, ◌+◌, ◌*◌, ◌/◌, ◌%◌, ◌<◌, slice_index}
use Rattle.cam_types.specs.Picture.{sensor_value as value_of}
use Rattle.picture_stages.proofs.rows.write_rows.Given as goal

abbrev pub invariant-loop-y : goal.invariant-loop-y
invariant-loop-y l = (k : ℕ) → k < l.y * 160 → slice_index l.values k ≡ value_of l.settings l.fn.frame.0 (k % 160) (k / 160 + l.first)
