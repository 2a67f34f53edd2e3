use Rattle.std.proofs.Common.{◌∙◌}
use Rattle.video_call.proofs.CallLemmas.{streams_of_calls}
use Rattle.video_call.proofs.calls.streams_by.Goals as goal

pub returns : goal.returns
returns c = c.streams.ensures ∙ streams_of_calls c.args.script.now c.args.entries.now c.args.calls.now c.requires
