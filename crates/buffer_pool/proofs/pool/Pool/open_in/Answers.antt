use Rattle.std.proofs.Common.{◌≡◌, ◌+◌, length, take, refl, ap, ◌∙◌, arith}
use Rattle.std.proofs.lemmas.Grind.{common_steps}
use Rattle.cam_types.specs.Shown.{Shown}
use Rattle.buffer_pool.proofs.FreshLemmas.{all-home, fresh-away, fresh-given}
use Rattle.buffer_pool.proofs.HomeLemmas.{is_of-parts}
use Rattle.buffer_pool.proofs.StockLemmas.{with_lent-more}
use Rattle.buffer_pool.proofs.pool.Pool.open_in.Goals as goal

pub give-requires-clause-away : goal.give-requires-clause-away
give-requires-clause-away c =
    rw c.over-pixels.ensures (fresh-away c.args.spec c.args.first.0 c.loop-place.place (c.args.first.0 + c.loop-place.place) c.loop-place.pool.home c.loop-place.invariant.fresh refl)

pub loop-place-preserved : goal.loop-place-preserved
loop-place-preserved c =
    let id = ap (λ (s : Shown). s.id.0) c.over-pixels.ensures in
    let block = ap (λ (s : Shown). s.block) c.over-pixels.ensures ∙ c.lend-block.ensures.block in
    let cut : length (take c.picture_length-used.result c.lend-block.result.items) ≡ c.picture_length-used.result = grind (arith, common_steps) in
    let shown = ap (λ (s : Shown). length s.bytes) c.over-pixels.ensures ∙ (cut ∙ c.picture_length-used.ensures.value) in
    record {
      spec_is = rw c.give.ensures.given c.loop-place.invariant.spec_is;
      first_is = rw c.give.ensures.given c.loop-place.invariant.first_is;
      count_is = rw c.give.ensures.given c.loop-place.invariant.count_is;
      fresh = rw c.give.ensures.given (fresh-given c.args.spec c.args.first.0 c.loop-place.place c.loop-place.pool.home c.over-pixels.result c.loop-place.invariant.fresh id block shown);
      blocks = rw (c.lend-block.ensures.blocks, c.loop-place.invariant.blocks) (with_lent-more c.args.spec.format c.loop-place.place c.args.blocks.now);
    }

pub returns-clause-home : goal.returns-clause-home
returns-clause-home c =
    λ n h. let own = is_of-parts c.loop-place.pool.first c.loop-place.pool.count n h in all-home c.loop-place.pool.home c.args.first.0 c.loop-place.place n c.loop-place.invariant.fresh.numbers (omega (arith, own.0)) (omega (arith, own.1))
