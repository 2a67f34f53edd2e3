use Rattle.std.proofs.Common.{List, ap}
use Rattle.circular_buffer.specs.Buffer.{buffer}
use Rattle.cam_types.specs.declared.request.WaitingItem.{WaitingItem}
use Rattle.client_calls.proofs.Named.{append-step}
use Rattle.client_calls.proofs.queue.append.Goals as goal

pub loop-index-preserved : goal.loop-index-preserved
loop-index-preserved c =
    let step = append-step c.args.waiting.now.items c.args.request c.args.items.now c.loop-index.index c.args.waiting.now.capacity _ c.loop-index-test.true c.requires.room in
    rw (c.push_back.ensures.items, c.loop-index.invariant) (ap (λ (xs : List WaitingItem). buffer xs c.args.waiting.now.capacity) step)
