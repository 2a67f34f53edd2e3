use Rattle.std.proofs.Common.{◌∙◌, ◌<◌, ◌+◌, ◌==◌, not, length, arith}
use Rattle.judge_rows.proofs.Kept.{kept-more, rest-more}
use Rattle.judge_rows.proofs.fences.leave_out.Goals as goal

pub loop-place-preserved : goal.loop-place-preserved
loop-place-preserved c =
    let inv = c.loop-place.invariant in
    let less : c.loop-place.place < length c.args.waiting.now.items = grind arith in
    record {
      items = kept-more (λ n. not (n == c.args.fence)) c.loop-place.place c.loop-place.waiting.items c.args.waiting.now.items c.keep-kept.new.waiting.items c.loop-place.kept c.keep-kept.result _ c.index-number.result.now less inv.items inv.rest c.index-number.ensures c.keep-kept.ensures.items;
      rest = c.keep-kept.ensures.rest (c.loop-place.place + 1) (omega arith) ∙ rest-more c.loop-place.place c.loop-place.waiting.items c.args.waiting.now.items inv.rest;
      within = omega arith;
      len = c.keep-kept.ensures.len ∙ inv.len;
    }
