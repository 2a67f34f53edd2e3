use Rattle.std.proofs.Common.{ap, sym, ◌∙◌, arith, unwrap_or, length}
use Rattle.call_parts.specs.Parts.{is_trace_line, trace_start}
use Rattle.call_parts.proofs.Starts.{found_here, found_later}
use Rattle.call_parts.proofs.part.trace_start.Goals as goal

pub returns-then-is_trace_line-clause-value : goal.returns-then-is_trace_line-clause-value
unfolding trace_start
returns-then-is_trace_line-clause-value c =
    sym (ap (λ found. unwrap_or found (length c.args.input.now))
    (found_here c.args.input.now c.loop-line.rest.now c.in-Some.line.now c.in-Some.after.now c.loop-line.start c.loop-line.invariant.0 c.in-Some.ensures.parts (sym (ap is_trace_line c.without_return.ensures) ∙ (sym c.is_trace_line.ensures ∙ c.if-is_trace_line.true))))

pub loop-line-preserved : goal.loop-line-preserved
loop-line-preserved c = (
  found_later c.args.input.now c.loop-line.rest.now c.in-Some.line.now c.in-Some.after.now c.loop-line.start c.loop-line.invariant.0 c.in-Some.ensures.parts (sym (ap is_trace_line c.without_return.ensures) ∙ (sym c.is_trace_line.ensures ∙ c.if-is_trace_line.false)),
  omega (arith, c.loop-line.invariant.1, c.in-Some.ensures.shorter),
)
