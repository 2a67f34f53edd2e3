use Rattle.std.proofs.Common.{◌∙◌, ◌+◌, reverse, sym, add-one, arith}
use Rattle.judge_rules.proofs.ListLemmas.{left_counts, taken_counts}
use Rattle.judge_rules.proofs.queue.count_left.Goals.{then-not-is_taken, else-not-is_taken}
use Rattle.judge_rules.proofs.queue.count_left.Goals as goal

pub loop-index-preserved : goal.loop-index-preserved
loop-index-preserved c =
    elim c.if-not-is_taken.branch [
      | then-not-is_taken w ↦ (let step = left_counts (reverse c.args.entries.now) c.args.request c.loop-index.index c.loop-index.index (c.loop-index.index + 1) c.args.items.now (add-one c.loop-index.index) c.loop-index-test.true (sym c.is_taken.ensures ∙ w.if-not-is_taken.true) in record {
        value = omega (arith, step, c.loop-index.invariant.value, w.count-is);
        few = omega (arith, c.loop-index.invariant.few, w.count-is);
      })
      | else-not-is_taken w ↦ (let step = taken_counts (reverse c.args.entries.now) c.args.request c.loop-index.index c.loop-index.index (c.loop-index.index + 1) c.args.items.now (add-one c.loop-index.index) c.loop-index-test.true (sym c.is_taken.ensures ∙ w.if-not-is_taken.false) in record {
        value = omega (arith, step, c.loop-index.invariant.value, w.count-is);
        few = omega (arith, c.loop-index.invariant.few, w.count-is);
      })
    ]
