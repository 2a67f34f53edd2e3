use Rattle.std.proofs.Common.{refl}
use Rattle.timeline_model.proofs.trace_chart.chart_by.Goals as goal

pub returns : goal.returns
returns c = rw (c.min-rows.ensures, c.in_ok-fault.ensures, c.len-count.ensures, c.in_ok-groups.ensures, c.as_slice-drawn.ensures, c.in_ok-lanes.ensures, c.in_ok-unfinished.ensures, c.as_slice-seats.ensures, c.in_ok-notes.ensures) refl
