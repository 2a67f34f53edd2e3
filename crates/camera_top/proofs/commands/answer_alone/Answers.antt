use Rattle.std.proofs.Common.{refl}
use Rattle.camera_top.proofs.Doing.{reading}
use Rattle.camera_top.proofs.commands.answer_alone.Goals as goal

pub returns-in-Play : goal.returns-in-Play
returns-in-Play g c = reading _ _ 65536 _ _ _ _ _ _ _ c.in-Play.is refl c.play_call.ensures.tells c.play_call.ensures.whole c.play_call.ensures.ends

pub returns-in-Check : goal.returns-in-Check
returns-in-Check g c = reading _ _ 134217728 _ _ _ _ _ _ _ c.in-Check.is refl c.check_call.ensures.tells c.check_call.ensures.legal c.check_call.ensures.ends

pub returns-in-Convert : goal.returns-in-Convert
returns-in-Convert g c = reading _ _ 134217728 _ _ _ _ _ _ _ c.in-Convert.is refl c.convert_call.ensures.tells c.convert_call.ensures.whole c.convert_call.ensures.ends

pub returns-in-Arbiter : goal.returns-in-Arbiter
returns-in-Arbiter g c = reading _ _ 65536 _ _ _ _ _ _ _ c.in-Arbiter.is refl c.arbiter_call.ensures.tells c.arbiter_call.ensures.whole c.arbiter_call.ensures.ends

pub returns-in-Auto : goal.returns-in-Auto
returns-in-Auto g c = reading _ _ 65536 _ _ _ _ _ _ _ c.in-Auto.is refl c.auto_call.ensures.tells c.auto_call.ensures.whole c.auto_call.ensures.ends

pub returns-in-Logical : goal.returns-in-Logical
returns-in-Logical g c = reading _ _ 65536 _ _ _ _ _ _ _ c.in-Logical.is refl c.logical_call.ensures.tells c.logical_call.ensures.whole c.logical_call.ensures.ends

pub returns-in-Reprocess : goal.returns-in-Reprocess
returns-in-Reprocess g c = reading _ _ 65536 _ _ _ _ _ _ _ c.in-Reprocess.is refl c.reprocess_call.ensures.tells c.reprocess_call.ensures.whole c.reprocess_call.ensures.ends
