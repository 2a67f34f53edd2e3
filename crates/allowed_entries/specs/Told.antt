-- What it means that a list tells of entries. (our own choice)
use Rattle.std.specs.Prelude.{◌≡◌, List, [], ◌∷◌, ◌⊎◌}
use Rattle.cam_types.specs.declared.script.Script.{Script}
use Rattle.trace_model.specs.declared.entry.Entry.{Entry}
use Rattle.trace_model.specs.Allowed.{IsAllowed}
use Rattle.allowed_entries.specs.declared.entry.AllowedEntry.{AllowedEntry}
use Rattle.allowed_entries.specs.Known.{known_of}

-- this is told of an entry that is allowed after the past
abbrev pub TellsAllowed : Script → List Entry → AllowedEntry → Type 0
TellsAllowed script past a = (e : Entry) × (IsAllowed script past e × (known_of e ≡ a))

-- each of the list is told of one
abbrev pub AllTellAllowed : Script → List Entry → List AllowedEntry → Type 0
AllTellAllowed script past [] = Unit {0}
AllTellAllowed script past (a ∷ all) = TellsAllowed script past a × AllTellAllowed script past all

-- one of the list is told of the entry
abbrev pub TellsOf : Entry → List AllowedEntry → Type 0
TellsOf e [] = ⊥
TellsOf e (a ∷ all) = (known_of e ≡ a) ⊎ TellsOf e all
