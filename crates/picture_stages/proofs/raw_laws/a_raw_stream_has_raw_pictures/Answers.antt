use Rattle.std.proofs.Common.{refl}
use Rattle.cam_types.specs.Picture.{picture}
use Rattle.picture_stages.proofs.raw_laws.a_raw_stream_has_raw_pictures.Goals as goal

pub returns : goal.returns
unfolding picture
returns c = λ spec s n is. rw is refl
