use Rattle.std.proofs.Common.{◌≡◌, Some, sym}
use Rattle.hal_device_model.specs.Calls.{settings_of}
use Rattle.hal_device.proofs.Fresh.{formed}
use Rattle.hal_device.proofs.device.HalDevice.accept.Goals as goal

pub admit-requires : goal.admit-requires
admit-requires c =
    let last : settings_of c.args.settings c.args.self.now.last ≡ Some c.in-Some.settings = rw (← c.self.view_is) (sym c.in-Some.ensures) in
    let asked = formed c.args.frame.0 c.args.settings c.in-Some.settings c.args.targets.now c.args.self.now c.requires last in
    record { formed = asked.well; room = asked.room }
