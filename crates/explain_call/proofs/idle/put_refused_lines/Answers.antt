use Rattle.std.proofs.Common.{refl}
use Rattle.explain_call.specs.Explained.{refused_lines}
use Rattle.explain_call.proofs.Written.{written_one}
use Rattle.explain_call.proofs.idle.put_refused_lines.Goals as goal

pub loop-rest-preserved : goal.loop-rest-preserved
loop-rest-preserved c =
    let inv = c.loop-rest.invariant in
    let next = written_one (refused_lines c.args.part.now) _ c.loop-rest.number _ _ c.loop-rest.rest.now _ _ _ c.in-len1-up.len_at_least refl c.in_ok-put_refused.ensures inv.whole inv.printable inv.numbers in
    record { whole = next.0; printable = next.1; numbers = next.2 }
