use Rattle.std.proofs.Common.{◌∙◌}
use Rattle.arbiter_call.specs.declared.line.ArbiterLine.TheVariants as ask
use Rattle.arbiter_call.proofs.Fair.{after-left, after-no-leave, camera-low, made-by}
use Rattle.arbiter_call.proofs.arbiter.Arbiter.leave.Goals as goal

pub release-requires-clause-camera : goal.release-requires-clause-camera
release-requires-clause-camera c =
    camera-low c.self.inside.cameras c.self.inside.log c.args.client.0 c.in-Some.session.camera.0 c.self.invariant.count c.in-Some.ensures.0

pub invariant_of-self : goal.invariant_of-self
invariant_of-self c =
    made-by c.self.inside.cameras c.self.inside.log c.release.new.log (ask.Leave c.args.client) c.requires.range (c.release.ensures.log ∙ after-left c.self.inside.cameras c.self.inside.log c.args.client c.in-Some.session c.in-Some.ensures.0 c.in-Some.ensures.1) c.self.invariant

pub invariant_of-self-in-None : goal.invariant_of-self-in-None
invariant_of-self-in-None c =
    made-by c.self.inside.cameras c.self.inside.log c.refuse.new.log (ask.Leave c.args.client) c.requires.range (c.refuse.ensures.log ∙ after-no-leave c.self.inside.cameras c.self.inside.log c.args.client c.in-None.ensures) c.self.invariant
