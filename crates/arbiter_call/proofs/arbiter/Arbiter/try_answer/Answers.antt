use Rattle.std.proofs.Common.{List, reverse, ap, sym, subst}
use mathlib.Core.List.{IsPrefix}
use Rattle.arbiter_call.specs.Answers.{after}
use Rattle.arbiter_call.specs.Arbitration.{Arbitration}
use Rattle.arbiter_call.specs.declared.answer.LogLine.{LogLine}
use Rattle.arbiter_call.proofs.Closing.{begins-after}
use Rattle.arbiter_call.proofs.arbiter.Arbiter.try_answer.Goals as goal

pub returns-then-has_room-clause-begins : goal.returns-then-has_room-clause-begins
returns-then-has_room-clause-begins c =
    let before = c.args.self.now in
    let same = ap (λ (a : Arbitration). a.past) c.answer.ensures.log in
    subst (λ (p : List LogLine). IsPrefix (reverse before.past) (reverse p)) (sym same) (begins-after before.cameras before.past c.args.line)
