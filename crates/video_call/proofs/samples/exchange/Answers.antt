use Rattle.std.proofs.Common.{◌∙◌, arith}
use Rattle.video_call.proofs.SampleLemmas.{all-pairs, pair_step}
use Rattle.video_call.proofs.samples.exchange.Goals as goal

pub loop-sample-preserved : goal.loop-sample-preserved
loop-sample-preserved c =
    pair_step c.loop-sample.sample c.args.bytes.now c.loop-sample.bytes c.loop-sample.invariant c.loop-sample-test.true

pub returns : goal.returns
returns c = c.loop-sample.invariant ∙ all-pairs c.loop-sample.sample c.args.bytes.now (omega arith)
