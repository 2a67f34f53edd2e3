use Rattle.std.proofs.Common.{◌≡◌}
use Rattle.buffer_pool.specs.Blocks.{with_lent}
use Rattle.buffer_pool.specs.Opened.{AreFresh}
use Rattle.buffer_pool.proofs.pool.Pool.open_in.Given as goal

abbrev pub invariant-loop-place : goal.invariant-loop-place
invariant-loop-place l = record {
  spec_is : l.pool.spec ≡ l.spec;
  first_is : l.pool.first ≡ l.first.0;
  count_is : l.pool.count ≡ l.count;
  fresh : AreFresh l.spec l.first.0 l.place l.pool.home;
  blocks : l.blocks ≡ with_lent l.spec.format l.place l.initial.blocks;
}
