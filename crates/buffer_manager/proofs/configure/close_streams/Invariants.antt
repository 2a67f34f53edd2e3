use Rattle.std.proofs.Common.{◌≡◌, length}
use Rattle.std.specs.Prelude.{vec_capacity}
use Rattle.buffer_pool.specs.Fences.{made}
use Rattle.buffer_manager.specs.Closing.{AreClosable, AreCounted, SameTotal}
use Rattle.buffer_manager.proofs.configure.close_streams.Given as goal

abbrev pub invariant-loop-stream : goal.invariant-loop-stream
invariant-loop-stream l = record {
  closable : AreClosable (made l.initial.fences) l.streams.items;
  counted : AreCounted l.streams.items l.blocks;
  total : SameTotal l.initial.blocks l.blocks;
  fences : l.fences ≡ l.initial.fences;
  capacity : vec_capacity l.streams ≡ vec_capacity l.initial.streams;
}

abbrev pub decreases-loop-stream : goal.decreases-loop-stream
decreases-loop-stream l = length l.streams.items
