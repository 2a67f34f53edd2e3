use Rattle.run_views.specs.Logs.{log_text}
use Rattle.run_views.proofs.log.write_log.Goals as goal

pub returns : goal.returns
unfolding log_text
returns g c = rw (c.in-Ok.ensures.chart, c.in-Ok.ensures.broken) at c.write_judged.ensures
