use Rattle.std.proofs.Common.{length, refl, sym, ◌∙◌}
use Rattle.hal_device_model.specs.Calls.{delivered_rows}
use Rattle.hal_device.proofs.Deliveries.{picture_block, picture_long, picture_shown}
use Rattle.hal_device.proofs.Keeping.{before_delivered, kept_back}
use Rattle.hal_device.proofs.device.HalDevice.deliver.Goals as goal

pub copy_from_slice-requires : goal.copy_from_slice-requires
copy_from_slice-requires c =
    let i = c.self.inside in
    let long = rw (← c.self.view_is) at (sym c.has_length.ensures ∙ c.if-not-has_length.false) in
    rw c.bytes.ensures (sym (picture_long i.quiet i.plan i.profile i.shelves i.next c.args.frame.0 c.args.stream.0 (length c.args.memory.now) c.in_ok-pixels.pixels c.in_ok-pixels.digest c.self.invariant long c.in_ok-pixels.ensures.picture))

pub take_back-requires : goal.take_back-requires
take_back-requires c =
    let i = c.self.inside in
    picture_block i.quiet i.plan i.profile i.shelves i.next c.args.frame.0 c.args.stream.0 (length c.into_block.result.items) c.in_ok-pixels.pixels c.in_ok-pixels.digest c.self.invariant c.in_ok-pixels.ensures.picture c.into_block.ensures.whole

pub invariant_of-self-2 : goal.invariant_of-self-2
invariant_of-self-2 c =
    let i = c.self.inside in
    kept_back i.quiet c.deliver.new.self i.plan i.profile i.shelves c.take_back.new.self i.next c.args.stream.0 (delivered_rows c.args.frame.0 c.args.stream i.quiet.rows) c.self.invariant c.in_ok-pixels.ensures.rows c.take_back.ensures (before_delivered i.next c.args.frame.0 c.args.stream i.quiet.rows c.self.invariant.before)

pub returns-clause-picture : goal.returns-clause-picture
returns-clause-picture c =
    let i = c.self.inside in
    rw (← c.self.view_is) (picture_shown i.quiet c.args.frame.0 c.args.stream.0 c.copy_from_slice.new.self c.in_ok-pixels.pixels c.in_ok-pixels.digest (record { buffer = c.id-buffer.result; digest = c.in_ok-pixels.digest }) c.in_ok-pixels.ensures.picture (c.copy_from_slice.ensures.after ∙ c.bytes.ensures) c.id-buffer.ensures refl)
