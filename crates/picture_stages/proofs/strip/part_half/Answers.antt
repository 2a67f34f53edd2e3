use Rattle.std.proofs.Common.{◌+◌, ◌-◌, ◌*◌, ◌/◌, ◌%◌, ◌≤◌, take, drop, get_or, ◌∙◌, arith}
use Rattle.std.proofs.lemmas.List.Elements.{All-take, All-drop}
use Rattle.picture_stages.proofs.PartLemmas.{blocks-more, in-row}
use Rattle.picture_stages.specs.Cells.{half_place}
use Rattle.picture_stages.proofs.strip.part_half.Goals as goal

pub loop-block-preserved : goal.loop-block-preserved
loop-block-preserved c = record {
  left = λ n low. blocks-more c.put_block.new.line c.loop-block.filters.left c.part_fours.result.0 (λ k. get_or c.args.rows.now (half_place k) 0) (c.loop-part.part * 5 + c.loop-block.block) c.put_block.ensures.before c.put_block.ensures.here (λ k h. c.part_fours.ensures.firsts.each k h ∙ in-row c.args.rows.now (c.loop-part.part % 2 * 640 + c.loop-part.part / 2 * 160) c.loop-block.block (k * 4) (half_place ((c.loop-part.part * 5 + c.loop-block.block) * 8 + k)) (omega arith) (omega arith) (omega arith)) c.loop-block.invariant.left n (omega (arith, low));
  right = λ n low. blocks-more c.put_block-in-loop-block.new.line c.loop-block.filters.right c.part_fours.result.1 (λ k. get_or c.args.rows.now (half_place k + 1) 0) (c.loop-part.part * 5 + c.loop-block.block) c.put_block-in-loop-block.ensures.before c.put_block-in-loop-block.ensures.here (λ k h. c.part_fours.ensures.seconds.each k h ∙ in-row c.args.rows.now (c.loop-part.part % 2 * 640 + c.loop-part.part / 2 * 160) c.loop-block.block (k * 4 + 1) (half_place ((c.loop-part.part * 5 + c.loop-block.block) * 8 + k) + 1) (omega arith) (omega arith) (omega arith)) c.loop-block.invariant.right n (omega (arith, low));
  filters = (c.put_block.ensures.line, c.put_block-in-loop-block.ensures.line);
}

pub loop-block-init : goal.loop-block-init
loop-block-init c = record {
  left = λ k low. c.loop-part.invariant.left k (omega (arith, low));
  right = λ k low. c.loop-part.invariant.right k (omega (arith, low));
  filters = c.loop-part.invariant.filters;
}

pub loop-part-preserved : goal.loop-part-preserved
loop-part-preserved c = record {
  left = λ k low. c.loop-block.invariant.left k (omega (arith, low));
  right = λ k low. c.loop-block.invariant.right k (omega (arith, low));
  filters = c.loop-block.invariant.filters;
}

pub part_fours-requires-clause-values : goal.part_fours-requires-clause-values
part_fours-requires-clause-values c =
    let first = c.loop-part.part % 2 * 640 + c.loop-part.part / 2 * 160 in
    let from = c.loop-block.block * 32 in
    let row = take (first + 160 - first) (drop first c.args.rows.now) in
    All-take (λ v. (64 ≤ v) × (v ≤ 1023)) (from + 32 - from) (drop from row) (All-drop (λ v. (64 ≤ v) × (v ≤ 1023)) from row (All-take (λ v. (64 ≤ v) × (v ≤ 1023)) (first + 160 - first) (drop first c.args.rows.now) (All-drop (λ v. (64 ≤ v) × (v ≤ 1023)) first c.args.rows.now c.requires.values)))

pub put_block-requires-clause-line : goal.put_block-requires-clause-line
put_block-requires-clause-line c = c.loop-block.invariant.filters.0

pub put_block-requires-in-loop-block-clause-line : goal.put_block-requires-in-loop-block-clause-line
put_block-requires-in-loop-block-clause-line c = c.loop-block.invariant.filters.1

pub returns-clause-left : goal.returns-clause-left
returns-clause-left c = λ k low. c.loop-part.invariant.left k (omega (arith, low))

pub returns-clause-right : goal.returns-clause-right
returns-clause-right c = λ k low. c.loop-part.invariant.right k (omega (arith, low))

pub returns-clause-filters : goal.returns-clause-filters
returns-clause-filters c = c.loop-part.invariant.filters
