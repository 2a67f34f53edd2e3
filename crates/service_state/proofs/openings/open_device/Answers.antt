use Rattle.std.proofs.Common.{ap, arith, length, refl}
use Rattle.device_core.specs.View.{DeviceView}
use Rattle.service_state.proofs.Opening.{depth_of, few_faults, profile_of}
use Rattle.service_state.proofs.openings.open_device.Goals as goal

pub copied-requires : goal.copied-requires
copied-requires c = let few = few_faults c.args.script.now c.requires in omega (arith, few, ap length c.as_slice.ensures)

pub new-requires : goal.new-requires
new-requires c = let fits = depth_of c.args.script.now c.requires in (omega (arith, fits.0), omega (arith, fits.1))

pub open-requires : goal.open-requires
open-requires c = profile_of c.args.script.now c.requires

pub scrap-requires : goal.scrap-requires
scrap-requires c = let none = ap (λ (device : DeviceView). device.rows) c.in_ok-device.ensures in rw none record { home = refl; made = refl }
