-- The streams of the plan are offered, and its blocks have their length.
use Rattle.std.proofs.Common.{refl}
use Rattle.hal_device.proofs.Offers.{offered_all, sized_all}
use Rattle.hal_device.proofs.device.HalDevice.put_plan.Goals as goal

pub configure-requires-clause-offered : goal.configure-requires-clause-offered
configure-requires-clause-offered c = offered_all c.args.plan c.requires.offered

pub invariant_of-self : goal.invariant_of-self
invariant_of-self c =
    rw (c.configure.ensures, c.requires.spares)
    (record {
      plan = refl;
      depth = c.self.invariant.depth;
      profile = c.self.invariant.profile;
      offered = c.requires.offered;
      packed = c.requires.packed;
      sized = sized_all c.args.plan;
      before = c.self.invariant.before;
    })
