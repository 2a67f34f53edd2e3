use Rattle.std.proofs.Common.{sym, refl, ◌∙◌}
use Rattle.call_parts.specs.Status.{status_number}
use Rattle.tools_top.proofs.Doing.{found, helping, reading, refusing}
use Rattle.tools_top.proofs.commands.tools_main.Goals as goal

pub returns-in-Some-Hal : goal.returns-in-Some-Hal
returns-in-Some-Hal g c = reading _ _ 134217728 _ _ _ _ _ _ _ (found _ _ _ _ c.in-Some-Hal.field-0-is c.in-Some-Hal.is c.tool_of.ensures) refl (rw c.form_of.ensures at c.hal_call.ensures.tells) (rw c.form_of.ensures at c.hal_call.ensures.whole) c.hal_call.ensures.ends

pub returns-in-Some-HalOf : goal.returns-in-Some-HalOf
returns-in-Some-HalOf g c = reading _ _ 134217728 _ _ _ _ _ _ _ (found _ _ _ _ c.in-Some-HalOf.field-0-is c.in-Some-HalOf.is c.tool_of.ensures) refl c.hal_of_call.ensures.tells c.hal_of_call.ensures.whole c.hal_of_call.ensures.ends

pub returns-in-Some-Candidates : goal.returns-in-Some-Candidates
returns-in-Some-Candidates g c = reading _ _ 65536 _ _ _ _ _ _ _ (found _ _ _ _ c.in-Some-Candidates.field-0-is c.in-Some-Candidates.is c.tool_of.ensures) refl c.candidates_call.ensures.tells c.candidates_call.ensures.whole c.candidates_call.ensures.ends

pub returns-in-Some-Explain : goal.returns-in-Some-Explain
returns-in-Some-Explain g c = reading _ _ 134217728 _ _ _ _ _ _ _ (found _ _ _ _ c.in-Some-Explain.field-0-is c.in-Some-Explain.is c.tool_of.ensures) refl c.explain_call.ensures.tells c.explain_call.ensures.whole c.explain_call.ensures.ends

pub returns-in-Some-Timeline : goal.returns-in-Some-Timeline
returns-in-Some-Timeline g c = reading _ _ 134217728 _ _ _ _ _ _ _ (found _ _ _ _ c.in-Some-Timeline.field-0-is c.in-Some-Timeline.is c.tool_of.ensures) refl (rw c.drawing_of.ensures at c.timeline_call.ensures.tells) (rw c.drawing_of.ensures at c.timeline_call.ensures.whole) c.timeline_call.ensures.ends

pub returns-in-Some-Video : goal.returns-in-Some-Video
returns-in-Some-Video g c = reading _ _ 65536 _ _ _ _ _ _ _ (found _ _ _ _ c.in-Some-Video.field-0-is c.in-Some-Video.is c.tool_of.ensures) refl c.video_call.ensures.tells c.video_call.ensures.whole c.video_call.ensures.ends

pub returns-in-Some-Picture : goal.returns-in-Some-Picture
returns-in-Some-Picture g c = reading _ _ 65536 _ _ _ _ _ _ _ (found _ _ _ _ c.in-Some-Picture.field-0-is c.in-Some-Picture.is c.tool_of.ensures) refl c.picture_call.ensures.tells c.picture_call.ensures.whole c.picture_call.ensures.ends

pub returns-in-Some-Help : goal.returns-in-Some-Help
returns-in-Some-Help g c = helping _ (status_number c.help_call.result) (g.S.Source.left c.args.source.now) (g.S.Source.faults c.args.source.now) (g.K.Sink.state c.args.sink.now) (g.K.Sink.state c.help_call.new.sink) (found _ _ _ _ c.in-Some-Help.field-0-is c.in-Some-Help.is c.tool_of.ensures) c.help_call.ensures

pub returns-in-None : goal.returns-in-None
returns-in-None g c = refusing _ (status_number c.usage.result) (g.S.Source.left c.args.source.now) (g.S.Source.faults c.args.source.now) (g.K.Sink.state c.args.sink.now) (g.K.Sink.state c.usage.new.sink) (sym c.in-None.is ∙ c.tool_of.ensures) c.usage.ensures
