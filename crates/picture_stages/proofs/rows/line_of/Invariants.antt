use Rattle.std.proofs.Common.{◌≡◌, ℕ, ◌/◌, ◌%◌, ◌<◌, length, slice_index}
use Rattle.cam_types.specs.Picture.{sensor_value as value_of}
use Rattle.picture_stages.specs.Line.{line_width}
use Rattle.picture_stages.proofs.rows.line_of.Given as goal

abbrev pub invariant-loop-place : goal.invariant-loop-place
invariant-loop-place l = record {
  len : length l.line ≡ 320;
  written : (k : ℕ) → k < l.place → slice_index l.line k ≡ value_of l.settings l.frame.0 (k % line_width l.settings) (k / line_width l.settings);
}
