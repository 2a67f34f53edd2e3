use Rattle.std.proofs.Common.{List, ◌∷◌, ◌++◌, [], ap, ◌∙◌}
use Rattle.cam_types.specs.declared.script.Command.{Command}
use Rattle.arbiter_call.proofs.script.session_commands.Goals as goal

pub returns : goal.returns
returns c = c.in_ok-push.ensures.ok ∙ ap (λ (l : List Command). l ++ c.args.last ∷ []) c.in_ok-put_preview.ensures
