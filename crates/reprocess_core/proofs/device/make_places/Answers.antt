use Rattle.reprocess_core.proofs.Places.{three-home}
use Rattle.reprocess_core.proofs.device.make_places.Goals as goal

pub returns : goal.returns
returns c =
    three-home c.args.spec c.make_home.result c.make_home-2.result c.make_home-3.result c.make_home.ensures c.make_home-2.ensures c.make_home-3.ensures
