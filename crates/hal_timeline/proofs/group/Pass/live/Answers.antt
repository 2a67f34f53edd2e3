use Rattle.std.proofs.Common.{◌∙◌, sym, ap, length}
use Rattle.std.proofs.lemmas.Map.Entries.{length-values_of}
use Rattle.hal_timeline.proofs.Lives.{live_rows}
use Rattle.hal_timeline.proofs.group.Pass.live.Goals as goal

pub returns : goal.returns
returns c = λ k past h. c.len.ensures.value ∙ (sym (length-values_of c.rows.result) ∙ (ap length c.rows.ensures.rows ∙ live_rows k past _ h))
