use Rattle.std.proofs.Common.{sym, ◌∙◌}
use Rattle.std.proofs.lemmas.Bool.{false≢true}
use Rattle.rule_conditions.proofs.FailedFirst.{known_plain}
use Rattle.rule_conditions.proofs.first.holds.Goals as goal

pub returns-then-is_return : goal.returns-then-is_return
returns-then-is_return c =
    let is = sym c.is_return.ensures ∙ c.if-is_return.true in
    record { known = λ k. c.return_holds.ensures.known is k; picture = λ u. c.return_holds.ensures.picture is u }

pub returns-else-is_return : goal.returns-else-is_return
returns-else-is_return c =
    let other = sym c.is_return.ensures ∙ c.if-is_return.false in
    record { known = λ k. c.plain_holds.ensures other; picture = λ u. absurd (false≢true (sym u ∙ known_plain c.args.entry.now c.args.condition other)) }
