use Rattle.std.proofs.Common.{◌∙◌, sym, ap}
use Rattle.cam_types.specs.Picture.{picture_of}
use Rattle.cam_types.proofs.PictureLemmas.{picture-of-readout}
use Rattle.video_call.proofs.easel.Easel.draw.Goals as goal

pub returns-clause-picture : goal.returns-clause-picture
returns-clause-picture c =
    let spec = c.args.shot.spec in
    c.draw-picture.ensures.picture
    ∙ (ap (λ values. picture_of spec.format spec.width spec.height values) c.into_parts-readout.ensures.values
    ∙ (rw (c.expose.ensures, c.new.ensures) (sym (picture-of-readout c.args.shot.spec c.args.shot.settings c.args.shot.frame.0))))
