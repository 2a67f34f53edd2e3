use Rattle.video_call.proofs.Telling.{run-told}
use Rattle.video_call.proofs.call.WantedScriptWork.answer_script.Goals as goal
use Rattle.call_parts.specs.Status.{status_number}

pub returns-in-Ok : goal.returns-in-Ok
returns-in-Ok g c =
    run-told c.args.self.now c.args.script c.in-Ok.chosen (status_number c.write_chosen.result) (g.K.Sink.state c.args.sink.now) (g.K.Sink.state c.write_chosen.new.sink) c.in-Ok.ensures.of c.write_chosen.ensures
