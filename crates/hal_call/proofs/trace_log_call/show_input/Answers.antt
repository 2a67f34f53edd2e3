use Rattle.hal_call.proofs.TraceLogTelling.{refusal_told}
use Rattle.hal_call.proofs.trace_log_call.show_input.Goals as goal
use Rattle.call_parts.specs.Status.{status_number}

pub returns-in-Ok-None : goal.returns-in-Ok-None
returns-in-Ok-None g c =
    refusal_told c.args.input.now (status_number c.judge_input.result) (g.K.Sink.state c.args.sink.now) (g.K.Sink.state c.judge_input.new.sink) c.requires (rw c.in-Ok-None.field-0-is at c.in-Ok-None.ensures) c.judge_input.ensures
