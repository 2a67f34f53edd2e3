use Rattle.run_model.specs.History.{trace_of}
use Rattle.video_call.proofs.Taken.{drawn-taken, file-taken}
use Rattle.video_call.proofs.chosen.choose_of.Goals as goal

pub returns-clause-of : goal.returns-clause-of
returns-clause-of c =
    file-taken c.args.wanted c.args.service.now.script (trace_of c.args.service.now.history) c.trace.result.now c.choose.result c.trace.ensures (rw c.script.ensures at c.choose.ensures)

pub returns-clause-drawable : goal.returns-clause-drawable
returns-clause-drawable c =
    drawn-taken c.args.wanted c.args.service.now.script (trace_of c.args.service.now.history) c.trace.result.now c.choose.result c.is_a_run.ensures.legal c.trace.ensures (rw c.script.ensures at c.choose.ensures)
