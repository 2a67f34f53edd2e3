use Rattle.std.proofs.Common.{◌≡◌, Some, ap, sym, ◌∙◌}
use Rattle.arbiter_call.specs.Log.{holder}
use Rattle.arbiter_call.specs.declared.answer.LogLine.{LogLine}
use Rattle.std.specs.Prelude.{List}
use Rattle.arbiter_call.proofs.Closing.{client-valid, vacated}
use Rattle.arbiter_call.proofs.Fair.{made-sound}
use Rattle.arbiter_call.proofs.arbiter.Arbiter.vacate.Goals as goal

pub leave-requires-clause-range : goal.leave-requires-clause-range
leave-requires-clause-range c =
    let before = c.args.self.now in
    let sound = made-sound before.cameras before.past c.keeps_the_laws.ensures.made in
    client-valid before.cameras c.args.camera before.past c.in-Some.client sound (sym c.holder.ensures ∙ c.in-Some.is)

pub returns-in-Some : goal.returns-in-Some
returns-in-Some c =
    let before = c.args.self.now in
    let sound = made-sound before.cameras before.past c.keeps_the_laws.ensures.made in
    c.leave.ensures.log ∙ ap (λ (p : List LogLine). record before { past = p }) (vacated before.cameras c.args.camera before.past c.in-Some.client sound (sym c.holder.ensures ∙ c.in-Some.is))
