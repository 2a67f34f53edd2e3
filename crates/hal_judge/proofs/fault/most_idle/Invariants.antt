use Rattle.std.proofs.Common.{◌≡◌, ◌++◌, drop, filter, map}
use Rattle.hal_model.specs.declared.event.StreamMax.{StreamMax}
use Rattle.hal_model.specs.Device.{is_idle_most}
use Rattle.hal_model.specs.Rules.{at_stream}
use Rattle.hal_judge.proofs.fault.most_idle.Given as goal

-- what is told and what is left are all that are idle
abbrev pub invariant-loop-named : goal.invariant-loop-named
invariant-loop-named l =
    map (λ (x : StreamMax). at_stream x.stream) (filter (is_idle_most l.asked) l.most)
    ≡ l.faults.items
    ++ map (λ (x : StreamMax). at_stream x.stream) (filter (is_idle_most l.asked) (drop l.named-index l.most))
