-- What is told of an entry that is allowed. (our own choice; docs/FORMATS.md, What explain writes)
use Rattle.std.specs.Prelude.{Bool, true, List, [], ◌∷◌, Option, Some, None, if◌then◌else◌}
use Rattle.trace_model.specs.declared.entry.Entry.{Entry}
use Rattle.trace_model.specs.declared.entry.Entry.TheVariants.{Send, Filled, Late}
use Rattle.trace_model.specs.Printable.{is_printable}
use Rattle.allowed_entries.specs.declared.entry.AllowedEntry.{AllowedEntry}
use Rattle.allowed_entries.specs.declared.entry.AllowedEntry.TheVariants as known

-- of a send all but the buffers, of a picture all but the digest, of another entry all
abbrev pub known_of : Entry → AllowedEntry
known_of (Send n r i same _) = known.Send n r i same
known_of (Filled n s b _ _) = known.Filled n s b
known_of (Late d _) = known.Late d
known_of e = known.Whole e

-- of an entry that is due, where one is
abbrev pub shown : Option Entry → List AllowedEntry
shown (Some e) = known_of e ∷ []
shown None = []

-- where the one that is due passes a test
abbrev pub shown_where : (Entry → Bool) → Option Entry → List AllowedEntry
shown_where test (Some e) = if test e then known_of e ∷ [] else []
shown_where test None = []

-- what is told whole has a line in the trace's text
abbrev pub prints : AllowedEntry → Bool
prints (known.Whole e) = is_printable e
prints _ = true
