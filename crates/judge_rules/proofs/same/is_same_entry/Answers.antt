use Rattle.std.proofs.lemmas.Bool.Decides.{Decides-at}
use Rattle.judge_rules.proofs.SameEntry.{Decides-entry_eq}
use Rattle.judge_rules.proofs.same.is_same_entry.Goals as goal

pub returns : goal.returns
returns c = Decides-at _ _ c.eq.ensures (Decides-entry_eq c.args.a c.args.b)
