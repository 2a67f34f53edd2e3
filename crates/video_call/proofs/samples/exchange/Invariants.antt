use Rattle.std.proofs.Common.{◌≡◌}
use Rattle.video_call.proofs.SampleLemmas.{exchanged_first}
use Rattle.video_call.proofs.samples.exchange.Given as goal

abbrev pub invariant-loop-sample : goal.invariant-loop-sample
invariant-loop-sample l = l.bytes ≡ exchanged_first l.sample l.initial.bytes
