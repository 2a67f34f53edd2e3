use Rattle.std.proofs.Common.{◌≡◌, arith}
use Rattle.logical_call.proofs.Telling.{told}
use Rattle.logical_call.proofs.call.run_cameras.Goals as goal
use Rattle.call_parts.specs.Status.{status_number}

pub returns-in-Ok : goal.returns-in-Ok
returns-in-Ok g c =
    let same : c.as_slice.result.now ≡ c.in-Ok.text.items = grind arith in
    told c.args.cameras.script c.in-Ok.text.items (status_number c.answer.result) (g.K.Sink.state c.args.sink.now) (g.K.Sink.state c.answer.new.sink) c.in-Ok.ensures (rw same at c.answer.ensures)
