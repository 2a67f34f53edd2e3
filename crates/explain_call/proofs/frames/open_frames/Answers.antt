use Rattle.std.proofs.Common.{refl, reverse}
use Rattle.explain_call.specs.Missing.{open_lines}
use Rattle.explain_call.proofs.Written.{written_one}
use Rattle.explain_call.proofs.frames.open_frames.Goals as goal

pub loop-rest-preserved : goal.loop-rest-preserved
loop-rest-preserved c =
    let inv = c.loop-rest.invariant in
    let next = written_one (open_lines (reverse c.args.entries.now)) _ c.loop-rest.number _ _ c.loop-rest.rest.now _ _ _ c.in-len1-up.len_at_least refl c.in_ok-put_open.ensures inv.whole inv.printable inv.numbers in
    record { whole = next.0; printable = next.1; numbers = next.2 }
