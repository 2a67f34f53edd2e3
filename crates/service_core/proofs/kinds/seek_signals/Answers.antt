use Rattle.std.proofs.Common.{arith}
use Rattle.service_core.proofs.Fences.{signal_at, signal_count}
use Rattle.service_core.proofs.kinds.seek_signals.Goals as goal

pub returns-then-number-count : goal.returns-then-number-count
returns-then-number-count c =
    let s = c.args.state.now in
    let count = signal_count s.script s.parts in
    let told = c.pending.ensures in
    omega (arith, count, told)

pub returns : goal.returns
returns c =
    let s = c.args.state.now in
    signal_at s.script s.parts c.args.number c.in-Some.fence c.in-Some.ensures
