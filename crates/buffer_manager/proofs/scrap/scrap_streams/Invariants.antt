use Rattle.std.proofs.Common.{length}
use Rattle.buffer_manager.specs.Streams.{waits_for_made}
use Rattle.buffer_manager.proofs.Spent.{AreLeft}
use Rattle.buffer_manager.proofs.scrap.scrap_streams.Given as goal

abbrev pub invariant-loop-stream : goal.invariant-loop-stream
invariant-loop-stream l = AreLeft waits_for_made l.initial.fences l.fences l.streams.items

abbrev pub decreases-loop-stream : goal.decreases-loop-stream
decreases-loop-stream l = length l.streams.items
