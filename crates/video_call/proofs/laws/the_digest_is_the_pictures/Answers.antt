use Rattle.video_call.proofs.Films.{told-digest}
use Rattle.video_call.proofs.laws.the_digest_is_the_pictures.Goals as goal

pub returns : goal.returns
returns c = told-digest
