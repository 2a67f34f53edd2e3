use Rattle.std.proofs.Common.{arith}
use Rattle.service_core.proofs.Most.{most}
use Rattle.service_core.proofs.choice.most_steps.Goals as goal

pub returns : goal.returns
returns c =
    let s = c.args.state.now in
    let few = most s.script s.parts in
    let buffers = c.buffer_count.ensures in
    let fences = c.pending.ensures in
    let frames = c.open_frames.ensures in
    omega (arith, few, buffers, fences, frames)
