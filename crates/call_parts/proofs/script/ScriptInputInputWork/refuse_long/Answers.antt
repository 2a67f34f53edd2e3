use Rattle.call_parts.proofs.script.ScriptInputInputWork.refuse_long.Goals as goal

pub returns : goal.returns
returns g c = rw c.number.ensures at c.refuse_script.ensures
