use Rattle.run_views.specs.Fronts.{text_in}
use Rattle.run_views.proofs.log.write_judged.Goals as goal

pub returns : goal.returns
returns g c = rw c.status_of.ensures at (c.answer_made.ensures (text_in c.args.form c.args.judged.now.chart) c.text_in-text.ensures)
