use Rattle.run_calls.proofs.Finishing.{settled-ends}
use Rattle.run_calls.proofs.finish.settle_and_write.Goals as goal
use Rattle.call_parts.specs.Status.{status_number}

pub returns : goal.returns
returns g c =
    settled-ends c.args.writer.now c.args.service c.settle.new.service c.settle.result (status_number c.write_trace_of-status.result) (g.K.Sink.state c.args.sink.now) (g.K.Sink.state c.write_trace_of-status.new.sink) c.settle.ensures.settled c.is_a_run.ensures.run (c.a_complete_run_keeps_the_laws.ensures c.args.service.script) c.write_trace_of-status.ensures
