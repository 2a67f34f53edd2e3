use Rattle.std.proofs.Common.{refl}
use Rattle.cam_types.specs.Picture.{picture}
use Rattle.picture_stages.proofs.yuv_laws.a_yuv_stream_has_yuv_pictures.Goals as goal

pub returns : goal.returns
unfolding picture
returns c = λ spec s n is. rw is refl
