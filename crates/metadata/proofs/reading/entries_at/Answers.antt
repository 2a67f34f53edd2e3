use Rattle.std.proofs.Common.{arith, sym}
use Rattle.std.proofs.lemmas.Result.{err_from_is_err_and}
use Rattle.metadata.proofs.Loop.{goes_on, ends, is_done, is_left, read_from}
use Rattle.std.proofs.Common.{None}
use Rattle.metadata.proofs.reading.entries_at.Goals as goal

pub returns-in_err-entry : goal.returns-in_err-entry
returns-in_err-entry c =
    let p = err_from_is_err_and c.from_residual.result c.from_residual.ensures.1 in
    rw (p.1, p.2) (ends c.in_err-entry.field-0.0 c.loop.entries.items c.args.count c.loop.counter c.loop.rest.now c.split_at.result.0.now c.args.area.now c.loop.tiled c.loop.last
    (read_from c.args.count c.args.slots.now c.args.area.now 0 None) c.loop-test.true c.split_at.ensures.front c.in_err-entry.ensures.entry c.loop.invariant.so_far)

pub loop-preserved : goal.loop-preserved
loop-preserved c = record {
  so_far = rw c.in_ok-push.ensures.items (goes_on c.loop.entries.items c.args.count c.loop.counter c.loop.rest.now c.split_at.result.0.now c.split_at.result.1.now c.args.area.now c.loop.tiled c.loop.last
      c.in_ok-entry.entry c.in_ok-entry.end (read_from c.args.count c.args.slots.now c.args.area.now 0 None) c.loop-test.true c.split_at.ensures.front c.split_at.ensures.back
      c.in_ok-entry.ensures.entry c.loop.invariant.so_far);
  len = omega arith;
  tiled = c.in_ok-entry.ensures.tiled;
}

pub returns-then-tiled-area : goal.returns-then-tiled-area
returns-then-tiled-area c = λ _. is_left c.loop.entries.items c.args.count c.loop.counter c.loop.rest.now c.args.area.now c.loop.tiled c.loop.last
    (read_from c.args.count c.args.slots.now c.args.area.now 0 None) c.loop-test.false (λ e. c.if-tiled-area.true (sym e)) c.loop.invariant.so_far

pub returns : goal.returns
returns c = is_done c.loop.entries.items c.args.count c.loop.counter c.loop.rest.now c.args.area.now c.loop.tiled c.loop.last
    (read_from c.args.count c.args.slots.now c.args.area.now 0 None) c.loop-test.false (sym c.if-tiled-area.false) c.loop.invariant.so_far
