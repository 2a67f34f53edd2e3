use Rattle.std.specs.Prelude.{ℕ, ◌+◌, List, max}
use Rattle.cam_types.specs.Limits.{frame_time}
use Rattle.cam_types.specs.declared.script.Script.{Script}
use Rattle.trace_model.specs.declared.entry.Entry.{Entry}
use Rattle.trace_model.specs.declared.entry.Entry.TheVariants.{Shutter}
use Rattle.trace_model.specs.Frames.{settings_of}

-- The times of shutters, entry by entry (our own choice).

-- the time of the next shutter after the entry, where the past led to the time t
abbrev pub time_after : ℕ → Script → List Entry → Entry → ℕ
time_after t script past (Shutter n time) = time + max frame_time (settings_of script past n.0).exposure
time_after t script past _ = t
