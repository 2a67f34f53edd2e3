use Rattle.std.proofs.Common.{ap, ◌∙◌, Option, slice_get}
use Rattle.cam_types.specs.declared.script.Command.{Command}
use Rattle.trace_model.specs.Calls.{items_of}
use Rattle.video_call.proofs.CallLemmas.{command_of_calls}
use Rattle.video_call.proofs.calls.item_by.Goals as goal

pub returns : goal.returns
returns c =
    c.item_at.ensures
    ∙ ap (λ (o : Option Command). slice_get (items_of o) c.args.place) (command_of_calls c.args.script.now c.args.entries.now c.args.calls.now c.args.request.0 c.requires)
