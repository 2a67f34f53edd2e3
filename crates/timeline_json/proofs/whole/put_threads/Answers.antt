use Rattle.std.proofs.Common.{◌∷◌}
use Rattle.serde_json.specs.Data.{Data}
use Rattle.serde_json.specs.Written.{compact_text}
use Rattle.timeline_json.proofs.Parts.{one-more-of}
use Rattle.timeline_json.proofs.whole.put_threads.Goals as goal

pub loop-thread-preserved : goal.loop-thread-preserved
loop-thread-preserved c =
    rw (c.in_ok-put_thread.ensures, c.loop-thread.invariant)
    (one-more-of (λ (d : Data). 44 ∷ compact_text d) _ _ c.args.threads.now c.loop-thread.thread-index _ c.loop-thread-test.true)
