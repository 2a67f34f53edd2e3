use Rattle.fill_jobs.proofs.PlaceLemmas.{empty_read}
use Rattle.fill_jobs.proofs.hands.Hands.is_empty.Goals as goal

pub returns : goal.returns
returns c =
    empty_read c.self.inside.places c.args.self.now c.taken_place.result c.is_none.result c.is_none.ensures c.taken_place.ensures.value c.self.view_is
