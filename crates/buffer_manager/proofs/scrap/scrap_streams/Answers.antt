use Rattle.std.proofs.Common.{refl}
use Rattle.buffer_manager.proofs.Spent.{last-spent}
use Rattle.buffer_manager.specs.Streams.{waits_for_made}
use Rattle.buffer_manager.proofs.scrap.scrap_streams.Goals as goal

pub loop-stream-init : goal.loop-stream-init
loop-stream-init c = record { same = refl; all_made = c.requires }

pub close-requires : goal.close-requires
close-requires c =
    let last = last-spent waits_for_made c.args.fences.now c.loop-stream.fences c.loop-stream.streams.items c.pop.new.self.items c.in-Some.stream c.loop-stream.invariant c.in-Some.ensures.items in
    record { waiters = last.0 }

pub loop-stream-preserved : goal.loop-stream-preserved
loop-stream-preserved c =
    let last = last-spent waits_for_made c.args.fences.now c.loop-stream.fences c.loop-stream.streams.items c.pop.new.self.items c.in-Some.stream c.loop-stream.invariant c.in-Some.ensures.items in
    last.1 _ c.close.ensures

pub returns : goal.returns
returns c = c.loop-stream.invariant.same
