use Rattle.std.proofs.Common.{ap, rules}
use Rattle.basic_lemmas.proofs.Tests.{or-second}
use Rattle.cam_types.specs.declared.row.RowView.{RowView}
use Rattle.hal_device.proofs.Fresh.{admitted, kept_requested}
use Rattle.hal_device.proofs.device.HalDevice.admit.Goals as goal

pub park-parked-requires-clause-fit : goal.park-parked-requires-clause-fit
park-parked-requires-clause-fit c =
    let row = rw (← c.self.view_is) at (admitted c.args.self.now c.self.inside.plan c.args.frame.0 c.args.settings c.args.targets.now c.fresh_row-row.result (rw (← c.self.view_is) c.self.invariant) c.requires.formed c.requires.room c.fresh_row-row.ensures) in
    row.fit

pub request-requires : goal.request-requires
request-requires c =
    let row = rw (← c.self.view_is) at (admitted c.args.self.now c.self.inside.plan c.args.frame.0 c.args.settings c.args.targets.now c.fresh_row-row.result (rw (← c.self.view_is) c.self.invariant) c.requires.formed c.requires.room c.fresh_row-row.ensures) in
    record { room = row.room; later = row.later; fresh = row.fresh; rests = row.rest; range = row.range; streams = row.streams; some = row.some; parked = search rules }

pub invariant_of-self : goal.invariant_of-self
invariant_of-self c =
    let i = c.self.inside in
    let row = rw (← c.self.view_is) at (admitted c.args.self.now c.self.inside.plan c.args.frame.0 c.args.settings c.args.targets.now c.fresh_row-row.result (rw (← c.self.view_is) c.self.invariant) c.requires.formed c.requires.room c.fresh_row-row.ensures) in
    kept_requested i.quiet c.request.new.self i.plan i.profile i.shelves c.park-parked.new.self i.next c.args.frame.0 c.fresh_row-row.result c.self.invariant c.request.ensures c.park-parked.ensures.shelves (ap (λ (r : RowView). r.frame.0) c.fresh_row-row.ensures) row.new

pub park-parked-requires-clause-blocks : goal.park-parked-requires-clause-blocks
park-parked-requires-clause-blocks c =
    let room = rw (← c.self.view_is) at c.requires.room in
    rw c.fresh_row-row.ensures (or-second _ _ (or-second _ _ room))
