use Rattle.logical_call.proofs.Telling.{opened, refused}
use Rattle.logical_call.proofs.call.run_script.Goals as goal

pub returns-in-Err-NotLogical : goal.returns-in-Err-NotLogical
returns-in-Err-NotLogical g c = refused c.args.script.now _ _ _ _ c.in-Err-NotLogical.field-0-is c.in-Err-NotLogical.ensures c.refuse_script.ensures

pub returns-in-Ok : goal.returns-in-Ok
returns-in-Ok g c = opened _ _ _ _ _ c.in-Ok.ensures.0 c.in-Ok.ensures.1 c.run_cameras.ensures
