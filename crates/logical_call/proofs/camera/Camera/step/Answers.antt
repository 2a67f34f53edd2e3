use Rattle.std.proofs.Common.{◌∙◌, length}
use Rattle.run_model.specs.History.{trace_of}
use Rattle.logical_call.proofs.Stepping.{has-line, lent-at, made-choice}
use Rattle.logical_call.proofs.camera.Camera.step.Goals as goal

pub returns-clause-made : goal.returns-clause-made
returns-clause-made c =
    let found = c.get.ensures.lookup in
    let got = lent-at c.get.result c.trace.result.now (length c.trace-seen.result.now) found.0 found.1 in
    rw (← c.self.view_is) (made-choice c.self.inside.service c.step_at.new.service c.args.number c.in-Done.field-0 c.copied.result c.trace-seen.result.now c.trace.result.now c.in-Done.ensures.stepped c.trace-seen.ensures c.trace.ensures (c.copied.ensures ∙ got))

pub returns-clause-line : goal.returns-clause-line
returns-clause-line c =
    let found = c.get.ensures.lookup in
    let got = lent-at c.get.result c.trace.result.now (length c.trace-seen.result.now) found.0 found.1 in
    has-line c.copied.result (trace_of c.step_at.new.service.history) c.trace.result.now (length c.trace-seen.result.now) c.is_a_run.ensures.lines c.trace.ensures (c.copied.ensures ∙ got)
