use Rattle.std.proofs.Common.{◌≡◌, ◌++◌, drop, filter, map}
use Rattle.hal_model.specs.declared.event.HalStream.{HalStream}
use Rattle.hal_model.specs.Device.{is_unnamed}
use Rattle.hal_model.specs.Rules.{at_stream}
use Rattle.hal_judge.proofs.fault.streams_unnamed.Given as goal

-- what is told and what is left are all that have no number
abbrev pub invariant-loop-stream : goal.invariant-loop-stream
invariant-loop-stream l =
    map (λ (x : HalStream). at_stream x.stream) (filter (is_unnamed l.most) l.asked)
    ≡ l.faults.items
    ++ map (λ (x : HalStream). at_stream x.stream) (filter (is_unnamed l.most) (drop l.stream-index l.asked))
