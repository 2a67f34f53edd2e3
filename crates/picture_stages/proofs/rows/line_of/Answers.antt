use Rattle.std.proofs.Common.{ℕ, ◌/◌, ◌%◌, ◌<◌, length, ◌∙◌, arith}
use Rattle.std.proofs.lemmas.List.{length-set}
use Rattle.std.proofs.lemmas.List.Edits.{fill_by_more}
use Rattle.cam_types.specs.Picture.{sensor_value as value_of}
use Rattle.picture_stages.specs.Line.{line_width}
use Rattle.picture_stages.proofs.rows.line_of.Goals as goal

pub loop-place-preserved : goal.loop-place-preserved
loop-place-preserved c =
    let f = λ (k : ℕ). value_of c.args.settings c.args.frame.0 (k % line_width c.args.settings) (k / line_width c.args.settings) in
    let len = c.loop-place.invariant.len in
    let within : c.loop-place.place < length c.loop-place.line = omega arith in
    record {
      len = length-set c.loop-place.line c.loop-place.place c.sensor_value.result ∙ len;
      written = rw (c.sensor_value.ensures, c.place_of-x.ensures.column, c.place_of-x.ensures.row) (fill_by_more f c.loop-place.line c.loop-place.place 0 within c.loop-place.invariant.written);
    }
