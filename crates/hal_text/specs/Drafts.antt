-- What stands after some lines of a text.
use Rattle.std.specs.Prelude.{ℕ, ◌==◌, Bool, true, ◌&&◌, List, [], ◌∷◌, ◌++◌, length, nat_lt, Option, Some, None, IsTrue}
use Rattle.hal_model.specs.Fits.{is_valid}
use Rattle.hal_text.specs.Begun.{Knows}
use Rattle.hal_text.specs.declared.begun.Begun.{Begun}
use Rattle.hal_text.specs.declared.log.HalLog.{HalLog}
use Rattle.hal_model.specs.declared.event.HalEvent.{HalEvent}

abbrev pub events_of : Option HalLog → List HalEvent
events_of None = []
events_of (Some log) = log.events

-- a log that can be written, whose events have a line each
abbrev pub is_sound : Option HalLog → Bool
is_sound None = true
is_sound (Some log) = is_valid log.parts log.events && (length log.lines == length log.events)

-- the calls are known that its events begin
abbrev pub Stands : Option HalLog → Begun → Type 0
Stands log begun = IsTrue (is_sound log) × Knows begun (events_of log)

-- it has fewer events than the number of the next line
abbrev pub is_short : Option HalLog → ℕ → Bool
is_short log line = nat_lt (length (events_of log)) line

-- with one more event, on line n
abbrev pub longer : ℕ → HalLog → HalEvent → HalLog
longer n log e = record log { events = log.events ++ e ∷ []; lines = log.lines ++ n ∷ [] }
