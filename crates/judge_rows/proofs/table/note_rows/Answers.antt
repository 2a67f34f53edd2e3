use Rattle.std.proofs.lemmas.Grind.{common_steps}
use Rattle.std.proofs.Common.{◌∙◌, ◌<◌, ◌+◌, length, ap, arith}
use Rattle.std.specs.List.{list_all}
use Rattle.state_facts.specs.Row.{row_after}
use Rattle.judge_rows.proofs.Kept.{at-rest, rest-more}
use Rattle.judge_rows.specs.declared.row.OpenRow.{OpenRow}
use Rattle.judge_rows.specs.Views.{is_free, row_of, as_targets}
use Rattle.judge_rows.proofs.RowLemmas.{free_at, kept_more}
use Rattle.judge_rows.proofs.table.note_rows.Goals as goal

pub note_row-requires : goal.note_row-requires
note_row-requires c =
    let inv = c.loop-place.invariant in
    let less : c.loop-place.place < length c.args.rows.now.items = grind arith in
    let own = c.index.ensures ∙ at-rest c.loop-place.place c.loop-place.rows.items c.args.rows.now.items c.index.result.now inv.rest in
    let free = free_at c.args.entry.now c.args.rows.now.items c.loop-place.place c.index.result.now c.requires less in
    ap (λ (r : OpenRow). list_all (is_free c.args.entry.now r.frame.0) (as_targets r.targets)) own ∙ free

pub loop-place-preserved : goal.loop-place-preserved
loop-place-preserved c =
    let inv = c.loop-place.invariant in
    let less : c.loop-place.place < length c.args.rows.now.items = grind arith in
    record {
      rows = kept_more c.args.entry.now c.loop-place.place c.loop-place.rows.items c.args.rows.now.items c.keep-kept.new.rows.items c.loop-place.kept c.keep-kept.result c.index.result.now c.note_row.result less inv.rows inv.rest (c.note_row.ensures ∙ ap (λ (r : OpenRow). row_after c.args.entry.now (row_of r)) c.index.ensures) c.keep-kept.ensures.rows;
      rest = c.keep-kept.ensures.rest (c.loop-place.place + 1) (omega arith) ∙ rest-more c.loop-place.place c.loop-place.rows.items c.args.rows.now.items inv.rest;
      within = omega arith;
      len = c.keep-kept.ensures.len ∙ inv.len;
    }

pub returns : goal.returns
returns c = grind (arith, common_steps)
