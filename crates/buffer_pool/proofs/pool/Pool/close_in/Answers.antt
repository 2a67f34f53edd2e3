use Rattle.std.proofs.Common.{◌≡◌, ◌+◌, ◌-◌, length, refl, arith}
use Rattle.buffer_pool.proofs.HomeLemmas.{is_of-from, length-all_home}
use Rattle.buffer_pool.proofs.StockLemmas.{with_returned-none}
use Rattle.buffer_pool.proofs.pool.Pool.close_in.Goals as goal

pub loop-parked-init : goal.loop-parked-init
loop-parked-init c =
    let pool = c.args.self in
    let all = length-all_home pool.home pool.first (pool.first + pool.count) c.format-format.ensures.in_order (omega arith) (λ n g l. c.requires.home n (is_of-from pool n g l)) in
    let none : pool.count - length pool.home ≡ 0 = omega (arith, all) in
    record {
      fences = refl;
      waiters = c.requires.waiters;
      whole = rw c.format-format.ensures.value c.requires.whole;
      left = omega (arith, all);
      returned = rw none (with_returned-none c.format-format.result c.args.blocks.now);
    }
