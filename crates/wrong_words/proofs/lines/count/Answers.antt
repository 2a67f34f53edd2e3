use Rattle.std.proofs.Common.{◌∙◌, ℕ, ◌+◌, ap, sym}
use Rattle.std.proofs.lemmas.List.Sums.{count_by_more_no, count_by_more_yes}
use Rattle.wrong_words.proofs.lines.count.Goals.{then-holds, else-holds}
use Rattle.wrong_words.proofs.lines.count.Goals as goal

pub loop-entry-preserved : goal.loop-entry-preserved
loop-entry-preserved g c = elim c.if-holds.branch [
  | then-holds w ↦ w.count-is
      ∙ (ap (λ (n : ℕ). n + 1) c.loop-entry.invariant ∙ sym (count_by_more_yes (g.C.Choice.test c.args.choice.now) c.args.entries.now c.loop-entry.entry-index _ c.loop-entry-test.true (sym c.holds.ensures ∙ w.if-holds.true)))
  | else-holds w ↦ w.count-is
      ∙ (c.loop-entry.invariant ∙ sym (count_by_more_no (g.C.Choice.test c.args.choice.now) c.args.entries.now c.loop-entry.entry-index _ c.loop-entry-test.true (sym c.holds.ensures ∙ w.if-holds.false)))
]
