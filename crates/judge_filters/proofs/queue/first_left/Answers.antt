use Rattle.std.proofs.Common.{◌∙◌, ◌+◌, not, reverse, sym, ap, add-one}
use Rattle.judge_filters.proofs.QueueLemmas.{left_step}
use Rattle.trace_model.specs.Queue.{is_taken}
use Rattle.judge_filters.proofs.queue.first_left.Goals as goal

pub loop-index-preserved : goal.loop-index-preserved
loop-index-preserved c =
    c.loop-index.invariant
    ∙ left_step (λ w. not (is_taken (reverse c.args.entries.now) w)) c.args.request c.loop-index.index c.loop-index.index (c.loop-index.index + 1) c.args.items.now (add-one c.loop-index.index) (λ d. ap not (sym c.is_taken.ensures ∙ c.if-not-is_taken.false)) c.loop-index-test.true
