use Rattle.std.proofs.Common.{rules}
use Rattle.fill_jobs.proofs.PlaceLemmas.{room_read}
use Rattle.fill_jobs.proofs.hands.Hands.has_room.Goals as goal

pub returns : goal.returns
returns c =
    room_read c.self.inside.places c.args.self.now c.free_place.result c.is_some.result 16 c.is_some.ensures c.free_place.ensures.value c.self.view_is (search rules)
