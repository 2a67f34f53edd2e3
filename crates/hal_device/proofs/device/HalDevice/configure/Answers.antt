use Rattle.std.proofs.lemmas.Grind.{common_steps}
use Rattle.std.proofs.Common.{◌≡◌, OnOk, ap, subst, sym, arith}
use Rattle.hal_device_model.specs.State.{HalDeviceState}
use Rattle.hal_device.proofs.Offers.{plan_offered, plan_packed, plan_state}
use Rattle.hal_device.proofs.device.HalDevice.configure.Goals as goal

pub take_plan-requires-clause-offered : goal.take_plan-requires-clause-offered
take_plan-requires-clause-offered c =
    rw c.in-Ok.ensures.planned (plan_offered c.self.inside.profile c.args.specs.now c.in-Ok.ensures.offered)

pub take_plan-requires-clause-packed : goal.take_plan-requires-clause-packed
take_plan-requires-clause-packed c = rw c.in-Ok.ensures.planned (plan_packed c.self.inside.profile c.args.specs.now)

pub returns-in-Ok-clause-state : goal.returns-in-Ok-clause-state
returns-in-Ok-clause-state c =
    let of = ap (λ (s : HalDeviceState). s.profile) (sym c.self.view_is) in
    let is = plan_state c.args.self.now c.self.inside.profile c.args.specs.now c.in-Ok.plan of c.in-Ok.ensures.planned in
    subst (λ (s : HalDeviceState). OnOk c.take_plan.result (c.take_plan.new.self ≡ s)) is c.take_plan.ensures.state

pub take_plan-requires-clause-idle : goal.take_plan-requires-clause-idle
take_plan-requires-clause-idle c = grind (arith, common_steps)
