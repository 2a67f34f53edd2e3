use Rattle.std.proofs.Common.{◌≡◌, ◌++◌, drop}
use Rattle.hal_model.specs.Hal.{most_from}
use Rattle.std.proofs.Common.{length}
use Rattle.hal_call.proofs.called.most_of.Given as goal

abbrev pub invariant-loop-spec : goal.invariant-loop-spec
invariant-loop-spec l = l.list ++ most_from l.profile (length l.list) (drop l.spec-index l.specs) ≡ most_from l.profile 0 l.specs
