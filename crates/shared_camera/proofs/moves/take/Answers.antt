use Rattle.std.proofs.Common.{Option, Some, ap, ◌∙◌}
use Rattle.run_model.specs.declared.step.Kind.TheVariants as kind
use Rattle.run_model.specs.declared.step.StepName.{StepName}
use Rattle.shared_camera.proofs.Firsts.{first-of-kind, takes-which}
use Rattle.shared_camera.proofs.Making.{filling-made}
use Rattle.shared_camera.proofs.moves.take.Goals as goal

pub unreachable-requires : goal.unreachable-requires
unreachable-requires c =
    let s = c.args.service.now in
    let which = takes-which c.args.step (first-of-kind s.script s.history kind.TakeFill c.args.step c.requires) in
    c.in_default.not-TakeFill which.0 which.1 which.2

pub returns : goal.returns
returns c =
    filling-made c.in-TakeFill.frame c.in-TakeFill.stream c.args.service.now c.take_fill.new.self c.take_fill.result (c.requires ∙ ap (λ (s : StepName). Some s) c.in-TakeFill.is) c.take_fill.ensures
