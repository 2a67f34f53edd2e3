use Rattle.std.proofs.Common.{◌≡◌, take}
use Rattle.buffer_manager.specs.Managed.{cleared, opened}
use Rattle.buffer_manager.proofs.manager.BufferManager.configure.Given as goal

abbrev pub invariant-loop-spec : goal.invariant-loop-spec
invariant-loop-spec l = l.self ≡ opened (take l.spec-index l.spec-items) (cleared l.fn.self)
