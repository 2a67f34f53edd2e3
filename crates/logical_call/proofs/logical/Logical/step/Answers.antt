use Rattle.std.proofs.Common.{◌∙◌, sym}
use Rattle.logical_call.proofs.LogicalSides.{turns}
use Rattle.logical_call.proofs.Turning.{answered}
use Rattle.logical_call.proofs.logical.Logical.step.Goals as goal

pub returns-in-First-clause-answers : goal.returns-in-First-clause-answers
returns-in-First-clause-answers c =
    let turn = (turns c.args.pick c.self.inside.first c.self.inside.second c.args.self.now c.done.result c.done-2.result c.self.view_is c.self.invariant.0 c.done.ensures c.done-2.ensures).0 (sym c.turn_of.ensures ∙ c.in-First.is) in
    answered c.args.pick 0 c.args.self.now c.step_first.new.self c.step_first.result turn c.step_first.ensures.step

pub returns-in-Second-clause-answers : goal.returns-in-Second-clause-answers
returns-in-Second-clause-answers c =
    let turn = (turns c.args.pick c.self.inside.first c.self.inside.second c.args.self.now c.done.result c.done-2.result c.self.view_is c.self.invariant.0 c.done.ensures c.done-2.ensures).1 (sym c.turn_of.ensures ∙ c.in-Second.is) in
    answered c.args.pick 1 c.args.self.now c.step_second.new.self c.step_second.result turn c.step_second.ensures.step
