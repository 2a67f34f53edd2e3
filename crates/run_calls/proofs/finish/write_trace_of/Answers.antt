use Rattle.basic_lemmas.proofs.Lists.{all-reversed}
use Rattle.run_model.specs.History.{trace_of}
use Rattle.trace_model.specs.Printable.{is_printable}
use Rattle.run_calls.proofs.finish.write_trace_of.Goals as goal

pub write_trace-requires : goal.write_trace-requires
write_trace-requires g c = rw c.trace.ensures (all-reversed is_printable (trace_of c.args.service.now.history) c.is_a_run.ensures.lines)

pub returns : goal.returns
returns g c = rw c.trace.ensures at c.write_trace.ensures
