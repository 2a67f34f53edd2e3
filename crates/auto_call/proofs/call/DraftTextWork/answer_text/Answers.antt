use Rattle.std.proofs.Common.{arith}
use Rattle.auto_call.proofs.Capturing.{captured}
use Rattle.auto_call.proofs.call.DraftTextWork.answer_text.Goals as goal
use Rattle.call_parts.specs.Status.{status_number}

pub returns-in-Ok : goal.returns-in-Ok
returns-in-Ok g c =
    captured c.args.text c.as_slice.result.now (status_number c.play_frames.result) (g.K.Sink.state c.args.sink.now) (g.K.Sink.state c.play_frames.new.sink) (grind arith) (rw c.in-Ok.ensures.script at c.play_frames.ensures)
