use Rattle.std.proofs.Common.{◌≡◌, true, ap, ◌∙◌}
use Rattle.arbiter_call.specs.Arbitration.{Arbitration}
use Rattle.arbiter_call.specs.Ranges.{is_session}
use Rattle.arbiter_call.specs.declared.line.ArbiterLine.TheVariants as ask
use Rattle.arbiter_call.proofs.Fair.{after-asked, after-holding, made-by}
use Rattle.arbiter_call.proofs.arbiter.Arbiter.connect.Goals as goal

pub invariant_of-self : goal.invariant_of-self
invariant_of-self c =
    let range : is_session c.self.inside.cameras c.args.session ≡ true = rw (ap (λ (a : Arbitration). a.cameras) c.self.view_is) c.requires.range in
    made-by c.self.inside.cameras c.self.inside.log c.refuse.new.log (ask.Connect c.args.session) range (c.refuse.ensures.log ∙ after-holding c.self.inside.cameras c.self.inside.log c.args.session c.in-Some.field-0.camera.0 c.in-Some.ensures.0) c.self.invariant

pub invariant_of-self-in-None : goal.invariant_of-self-in-None
invariant_of-self-in-None c =
    let range : is_session c.self.inside.cameras c.args.session ≡ true = rw (ap (λ (a : Arbitration). a.cameras) c.self.view_is) c.requires.range in
    made-by c.self.inside.cameras c.self.inside.log c.give.new.log (ask.Connect c.args.session) range (c.give.ensures.log ∙ after-asked c.self.inside.cameras c.self.inside.log c.args.session c.give.result c.in-None.ensures c.give.ensures.answer) c.self.invariant
