use Rattle.std.specs.Prelude.{ℕ, ◌==◌, Option, Some, if◌then◌else◌}
use Rattle.trace_model.specs.declared.entry.Entry.{Entry}
use Rattle.trace_model.specs.declared.entry.Entry.TheVariants.{Shutter, Partial}

-- What an entry makes of the time of frame n's shutter, and of how many partial results the frame has (camera3.h,
-- camera3_shutter_msg.timestamp and camera3_capture_result.partial_result).

-- the shutter's time is the frame's
abbrev pub note_time : Entry → ℕ → Option ℕ → Option ℕ
note_time (Shutter m time) n old = if m.0 == n then Some time else old
note_time _ n old = old

-- the number of a part is how many there are
abbrev pub partials_after : Entry → ℕ → ℕ → ℕ
partials_after (Partial m k _) n old = if m.0 == n then k else old
partials_after _ n old = old
