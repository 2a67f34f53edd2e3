use Rattle.std.proofs.Common.{◌≡◌, length, ap, ◌∙◌, sym, subst, true, arith}
use Rattle.cam_types.specs.Script.{is_valid}
use Rattle.auto_call.specs.Output.{script_of}
use Rattle.auto_call.proofs.Scripts.{shots-few, drawn-valid}
use Rattle.auto_call.proofs.run.draw_up.Goals as goal

pub script_of-requires : goal.script_of-requires
script_of-requires c =
    let few = shots-few c.args.text.now c.requires in
    let same = ap length (c.as_slice-2.ensures ∙ c.in_ok-found.ensures.shots) in
    omega arith

pub returns-clause-valid : goal.returns-clause-valid
returns-clause-valid c =
    ap is_valid (c.in_ok-script.ensures ∙ ap script_of (c.as_slice-2.ensures ∙ c.in_ok-found.ensures.shots))
    ∙ drawn-valid c.args.text.now c.requires
