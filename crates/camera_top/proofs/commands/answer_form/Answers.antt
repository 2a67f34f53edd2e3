use Rattle.std.proofs.Common.{refl}
use Rattle.call_parts.specs.Status.{status_number}
use Rattle.camera_top.proofs.Doing.{generating, helping, reading}
use Rattle.camera_top.proofs.commands.answer_form.Goals as goal

pub returns-in-Run : goal.returns-in-Run
returns-in-Run g c = reading _ _ 65536 _ _ _ _ _ _ _ c.in-Run.is refl c.run_call.ensures.tells c.run_call.ensures.whole c.run_call.ensures.ends

pub returns-in-Gen : goal.returns-in-Gen
returns-in-Gen g c = generating _ _ _ _ (g.S.Source.left c.args.source.now) (g.S.Source.faults c.args.source.now) _ _ c.in-Gen.is c.gen_call.ensures.tells c.gen_call.ensures.whole c.gen_call.ensures.sink c.gen_call.ensures.known

pub returns-in-Help : goal.returns-in-Help
returns-in-Help g c = helping _ (status_number c.help_call.result) (g.S.Source.left c.args.source.now) (g.S.Source.faults c.args.source.now) (g.K.Sink.state c.args.sink.now) (g.K.Sink.state c.help_call.new.sink) c.in-Help.is c.help_call.ensures
