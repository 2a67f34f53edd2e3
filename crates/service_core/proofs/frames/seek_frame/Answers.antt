use Rattle.std.proofs.Common.{◌≡◌, false, ap, sym, ◌∙◌}
use Rattle.cam_types.specs.declared.script.Script.{Script}
use Rattle.service_core.specs.Looks.{may_have}
use Rattle.service_core.proofs.Idle.{frame_left}
use Rattle.service_core.proofs.Walking.{none_left}
use Rattle.service_core.proofs.frames.seek_frame.Goals as goal

pub returns-then-not-may_have : goal.returns-then-not-may_have
returns-then-not-may_have c =
    let s = c.args.state.now in
    let none : may_have s.script c.args.kind c.args.row ≡ false = sym (ap (λ (x : Script). may_have x c.args.kind c.args.row) c.script.ensures) ∙ (sym c.may_have.ensures ∙ c.if-not-may_have.true) in
    none_left _ c.args.number (frame_left s.script s.parts c.args.kind c.args.row c.requires.own none)
