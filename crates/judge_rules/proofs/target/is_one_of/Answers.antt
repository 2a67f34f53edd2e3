use Rattle.std.proofs.Common.{◌∙◌, sym}
use Rattle.judge_rules.proofs.StreamLemmas.{any_in_range}
use Rattle.judge_rules.proofs.target.is_one_of.Goals as goal

pub returns-in-Some : goal.returns-in-Some
returns-in-Some c =
    rw c.in-Some.is (c.is_made.ensures ∙ sym (any_in_range c.args.buffer.0 c.in-Some.made.first.0 c.in-Some.made.count))
