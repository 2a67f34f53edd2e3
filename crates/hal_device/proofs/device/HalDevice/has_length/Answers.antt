use Rattle.std.proofs.lemmas.Grind.{common_steps}
use Rattle.std.proofs.Common.{arith}
use Rattle.hal_device.proofs.Offers.{place_offered}
use Rattle.hal_device.proofs.device.HalDevice.has_length.Goals as goal

pub picture_length-requires : goal.picture_length-requires
picture_length-requires c =
    place_offered c.self.inside.plan c.args.stream.0 c.in-Some.planned c.self.invariant.offered c.in-Some.ensures

pub returns-in-Some : goal.returns-in-Some
returns-in-Some c = grind (arith, common_steps)

pub returns-in-None : goal.returns-in-None
returns-in-None c = grind (arith, common_steps)
