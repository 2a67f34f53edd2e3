use Rattle.std.proofs.Common.{◌≡◌, ◌<◌, true, not, arith, reverse, sym}
use Rattle.reprocess_model.specs.Past.{is_gone, request_count}
use Rattle.reprocess_core.proofs.Below.{found-is, found-none, not-gone}
use Rattle.reprocess_core.proofs.home.least_queued.Goals as goal

pub returns-then-not-is_gone : goal.returns-then-not-is_gone
returns-then-not-is_gone c =
    let past = reverse c.args.lines.now in
    let less : c.loop-request.request < request_count past = omega (arith, c.request_count-count.ensures.value, c.loop-request-test.true) in
    let waits : not (is_gone c.loop-request.request past) ≡ true = grind (arith, c.is_gone.ensures, c.if-not-is_gone.true) in
    sym (found-is (request_count past) c.loop-request.request (λ n. not (is_gone n past)) less waits (λ j l. not-gone (is_gone j past) (c.loop-request.invariant j l)))

pub returns : goal.returns
returns c =
    let past = reverse c.args.lines.now in
    sym (found-none (request_count past) (λ n. not (is_gone n past)) (λ j l. not-gone (is_gone j past) (c.loop-request.invariant j (omega (arith, l, c.request_count-count.ensures.value, c.loop-request-test.false)))))
