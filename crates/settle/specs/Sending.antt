use Rattle.std.specs.Prelude.{◌≡◌, List, [], ◌∷◌, Some}
use Rattle.cam_types.specs.declared.script.Script.{Script}
use Rattle.trace_model.specs.declared.entry.Entry.{Entry}
use Rattle.trace_model.specs.Send.{send_due}

-- No entry but a send stands where a send was due: the device gets all that it can take. (Our own choice of a run;
-- camera3.h, operation sequence, point 10: several requests can be in flight at once)
abbrev pub SendsFirst : Script → List Entry → Type 0
SendsFirst script [] = Unit {0}
SendsFirst script (e ∷ past) = ((send : Entry) → send_due script past ≡ Some send → e ≡ send) × SendsFirst script past
