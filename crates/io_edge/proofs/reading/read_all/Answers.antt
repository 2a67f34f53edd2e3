use Rattle.std.proofs.lemmas.Grind.{common_steps}
use Rattle.std.proofs.Common.{◌≡◌, ◌+◌, ◌≤◌, ◌++◌, arith, length, length-append, length-take, take}
use Rattle.std.proofs.lemmas.Result.{err_from_is_err_and}
use Rattle.std.proofs.KnownBytes.{Consumes-trans}
use Rattle.io_edge.proofs.reading.read_all.Goals as goal

pub returns-then-count-spare-clause-taken : goal.returns-then-count-spare-clause-taken
returns-then-count-spare-clause-taken g c =
    let kept = c.loop-bytes.bytes.items in
    let more = take c.in_ok-count.count c.read.new.buf in
    let past : length (kept ++ more) ≡ c.args.limit + 1 =
    simp (length-append, length-take) (omega (arith, c.in_ok-count.ensures.bound, length-take (c.min-most.result + 1) c.loop-bytes.piece)) in
    (kept ++ more, Consumes-trans _ _ _ kept more c.loop-bytes.invariant.taken c.in_ok-count.ensures.bytes.0, past)

pub returns-in_err-extend_from_slice-clause-taken :
    goal.returns-in_err-extend_from_slice-clause-taken
returns-in_err-extend_from_slice-clause-taken g c =
    let kept = c.loop-bytes.bytes.items in
    let more = take c.in_ok-count.count c.read.new.buf in
    let within : length (kept ++ more) ≤ c.args.limit =
    simp (length-append, length-take) (omega (arith, c.in_ok-count.ensures.bound)) in
    let fault = err_from_is_err_and c.from_residual-in_err-extend_from_slice.result c.from_residual-in_err-extend_from_slice.ensures.1 in
    (kept ++ more, Consumes-trans _ _ _ kept more c.loop-bytes.invariant.taken c.in_ok-count.ensures.bytes.0, rw (fault.1) within)

pub returns-then-count-spare-clause-answer : goal.returns-then-count-spare-clause-answer
returns-then-count-spare-clause-answer c = grind (arith, common_steps)

pub loop-bytes-preserved : goal.loop-bytes-preserved
loop-bytes-preserved c = grind (arith, common_steps)
