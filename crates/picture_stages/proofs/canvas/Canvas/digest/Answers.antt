use Rattle.std.proofs.Common.{◌∙◌, sym, ap}
use Rattle.cam_types.specs.Picture.{picture_of}
use Rattle.sha2.specs.Sha256.{sha256}
use Rattle.cam_types.proofs.PictureLemmas.{picture-of-readout}
use Rattle.picture_stages.proofs.canvas.Canvas.digest.Goals as goal

pub returns : goal.returns
returns c =
    let spec = c.args.spec in
    c.draw-block.ensures.digest
    ∙ (ap (λ values. sha256 (picture_of spec.format spec.width spec.height values)) c.into_parts-readout.ensures.values
    ∙ (rw (c.expose.ensures, c.new.ensures) (ap sha256 (sym (picture-of-readout c.args.spec c.args.settings c.args.frame.0)))))
