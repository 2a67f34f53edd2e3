-- Each entry of a trace that was read has a line.
use Rattle.run_views.proofs.timeline.show_text.Goals as goal

pub show_trace-requires : goal.show_trace-requires
show_trace-requires g c = (c.read_is_spelled.ensures c.args.first_line c.args.text.now c.in-Ok.trace c.in-Ok.ensures).2
