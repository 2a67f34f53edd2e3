use Rattle.std.proofs.Common.{◌/◌, ◌%◌, ap, arith, ◌∙◌}
use Rattle.std.proofs.Math.Nat.{add-zero}
use Rattle.cam_types.specs.Picture.{sensor_value}
use Rattle.picture_stages.proofs.RowLemmas.{readout-all}
use Rattle.picture_stages.proofs.rows.write_readout.Goals as goal

pub returns : goal.returns
returns c = readout-all c.args.settings c.args.frame.0 c.write_rows.new.values (c.write_rows.auto.values ∙ c.requires.len) (λ k h. c.write_rows.ensures k (omega arith) ∙ ap (λ y. sensor_value c.args.settings c.args.frame.0 (k % 160) y) (add-zero (k / 160)))
