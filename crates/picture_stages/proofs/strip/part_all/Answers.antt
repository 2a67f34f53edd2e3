use Rattle.std.proofs.Common.{◌+◌, ◌-◌, ◌*◌, get_or, ◌∙◌, arith}
use Rattle.picture_stages.proofs.PartLemmas.{blocks-more, in-slice}
use Rattle.picture_stages.proofs.strip.part_all.Goals as goal

pub loop-block-preserved : goal.loop-block-preserved
loop-block-preserved c = record {
  left = blocks-more c.put_block.new.line c.loop-block.filters.left c.part_twos.result.0 (λ k. get_or c.args.rows.now (k * 2) 0) c.loop-block.block c.put_block.ensures.before c.put_block.ensures.here (λ k h. c.part_twos.ensures.evens.each k h ∙ in-slice c.args.rows.now (c.loop-block.block * 16) (c.loop-block.block * 16 + 16 - c.loop-block.block * 16) (k * 2) ((c.loop-block.block * 8 + k) * 2) (omega arith) (omega arith)) c.loop-block.invariant.left;
  right = blocks-more c.put_block-in-loop-block.new.line c.loop-block.filters.right c.part_twos.result.1 (λ k. get_or c.args.rows.now (k * 2 + 1) 0) c.loop-block.block c.put_block-in-loop-block.ensures.before c.put_block-in-loop-block.ensures.here (λ k h. c.part_twos.ensures.odds.each k h ∙ in-slice c.args.rows.now (c.loop-block.block * 16) (c.loop-block.block * 16 + 16 - c.loop-block.block * 16) (k * 2 + 1) ((c.loop-block.block * 8 + k) * 2 + 1) (omega arith) (omega arith)) c.loop-block.invariant.right;
  filters = (c.put_block.ensures.line, c.put_block-in-loop-block.ensures.line);
}
