use Rattle.std.proofs.Common.{inr, refl}
use Rattle.basic_lemmas.proofs.Lists.{all-reversed}
use Rattle.call_parts.specs.Status.{status_number}
use Rattle.call_parts.specs.Texts.{text_in}
use Rattle.run_model.specs.History.{trace_of}
use Rattle.trace_model.specs.Printable.{is_printable}
use Rattle.play_calls.proofs.Fronts.{behind, front_broken}
use Rattle.play_calls.proofs.prepared.write_behind.Goals as goal

pub write_run-requires : goal.write_run-requires
write_run-requires g c = rw c.trace.ensures (all-reversed is_printable (trace_of c.args.service.now.history) c.is_a_run.ensures.lines)

pub returns-in-Ok : goal.returns-in-Ok
returns-in-Ok g c =
    let same = rw c.requires at c.in-Ok.ensures.same in
    let shown = rw c.trace.ensures at (rw same at c.write_run.ensures) in
    behind c.args.front.now (text_in c.args.output c.args.service.now.script c.args.service.now.history) (status_number c.write_run.result) (g.K.Sink.state c.args.sink.now) (g.K.Sink.state c.write_front.new.sink) (g.K.Sink.state c.write_run.new.sink) c.in-Ok.ensures.written c.in-Ok.ensures.faults shown

pub returns-in-Err : goal.returns-in-Err
returns-in-Err g c =
    inr (refl, (front_broken c.args.front.now (text_in c.args.output c.args.service.now.script c.args.service.now.history) (g.K.Sink.state c.args.sink.now) (g.K.Sink.state c.write_front.new.sink) c.in-Err.ensures.failed, c.in-Err.ensures.faults))
