use Rattle.std.proofs.Common.{◌≡◌, arith}
use Rattle.std.specs.Prelude.{reverse}
use Rattle.call_parts.specs.Answers.{Answers}
use Rattle.reprocess_call.specs.Lines.{run_text}
use Rattle.reprocess_call.specs.Reprocess.{IsWholeRun}
use Rattle.reprocess_call.proofs.prepared.play_prepared.Goals as goal
use Rattle.call_parts.specs.Status.{status_number}

pub returns : goal.returns
returns g c =
    let past = c.play.new.device.past in
    let plan : c.play.new.device.plan ≡ c.args.prepared = grind arith in
    let run : IsWholeRun c.args.prepared past = rw plan at c.play.ensures.run in
    let answers : Answers 0 (run_text (reverse past)) (status_number c.write_lines-status.result) (g.K.Sink.state c.args.sink.now) (g.K.Sink.state c.write_lines-status.new.sink) = rw c.lines.ensures at c.write_lines-status.ensures in
    record { past = past; run = run; answers = answers }
