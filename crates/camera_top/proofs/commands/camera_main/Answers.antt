use Rattle.std.proofs.Common.{sym, ◌∙◌}
use Rattle.call_parts.specs.Status.{status_number}
use Rattle.camera_top.proofs.Doing.{refusing, says}
use Rattle.camera_top.proofs.commands.camera_main.Goals as goal

pub returns-in-Some : goal.returns-in-Some
returns-in-Some g c = says _ _ _ _ _ _ _ _ _ (sym c.in-Some.is ∙ c.form_of.ensures.form) c.answer_form.ensures

pub returns-in-None : goal.returns-in-None
returns-in-None g c = says _ _ _ _ _ _ _ _ _ (sym c.in-None.is ∙ c.form_of.ensures.form) (refusing (status_number c.usage.result) (g.S.Source.left c.args.source.now) (g.S.Source.faults c.args.source.now) (g.K.Sink.state c.args.sink.now) (g.K.Sink.state c.usage.new.sink) c.usage.ensures)
