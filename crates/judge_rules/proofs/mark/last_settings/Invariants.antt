use Rattle.std.proofs.Common.{◌≡◌, reverse, take}
use Rattle.trace_model.specs.Send.{last_settings}
use Rattle.judge_rules.proofs.mark.last_settings.Given as goal

abbrev pub invariant-loop-index : goal.invariant-loop-index
invariant-loop-index l = l.last ≡ last_settings l.script (reverse (take l.index l.entries))
