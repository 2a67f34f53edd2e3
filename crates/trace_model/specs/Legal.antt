use Rattle.std.specs.Prelude.{List, [], ◌∷◌}
use Rattle.cam_types.specs.declared.script.Script.{Script}
use Rattle.trace_model.specs.declared.entry.Entry.{Entry}
use Rattle.trace_model.specs.Allowed.{IsAllowed}

-- A trace, the newest entry first, is a legal run of the script so far: each entry is allowed after those before it.
abbrev pub IsLegal : Script → List Entry → Type 0
IsLegal script [] = Unit {0}
IsLegal script (e ∷ past) = IsAllowed script past e × IsLegal script past
