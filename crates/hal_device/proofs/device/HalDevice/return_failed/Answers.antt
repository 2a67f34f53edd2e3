use Rattle.std.proofs.Common.{length}
use Rattle.device_core.specs.Stored.{specs_of}
use Rattle.hal_device_model.specs.Calls.{failed_rows}
use Rattle.hal_device.proofs.Keeping.{before_failed, block_number, block_sized, kept_back}
use Rattle.hal_device.proofs.device.HalDevice.return_failed.Goals as goal

pub take_back-requires : goal.take_back-requires
take_back-requires c =
    let i = c.self.inside in
    block_sized i.quiet i.plan i.profile i.shelves i.next c.args.frame.0 c.args.stream.0 c.in_ok-buffer.buffer (length c.in_ok-buffer.block.items) c.self.invariant c.in_ok-buffer.ensures.buffer

pub invariant_of-self-2 : goal.invariant_of-self-2
invariant_of-self-2 c =
    let i = c.self.inside in
    kept_back i.quiet c.return_failed.new.self i.plan i.profile i.shelves c.take_back.new.self i.next c.args.stream.0 (failed_rows c.args.frame.0 c.args.stream i.quiet.rows) c.self.invariant c.in_ok-buffer.ensures.rows c.take_back.ensures (before_failed i.next c.args.frame.0 c.args.stream i.quiet.rows c.self.invariant.before)

pub returns-clause-buffer : goal.returns-clause-buffer
returns-clause-buffer c =
    let i = c.self.inside in
    rw (← c.self.view_is) (block_number (specs_of i.quiet.plan) c.args.frame.0 c.args.stream.0 i.quiet.rows c.in_ok-buffer.buffer (length c.in_ok-buffer.block.items) c.in_ok-buffer.ensures.buffer)
