use Rattle.std.proofs.Common.{◌≡◌, ◌++◌, drop}
use Rattle.hal_model.specs.Hal.{streams_from}
use Rattle.std.proofs.Common.{length}
use Rattle.hal_call.proofs.called.streams_of.Given as goal

abbrev pub invariant-loop-spec : goal.invariant-loop-spec
invariant-loop-spec l = l.list ++ streams_from (length l.list) (drop l.spec-index l.specs) ≡ streams_from 0 l.specs
