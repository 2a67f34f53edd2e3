use Rattle.std.specs.Prelude.{ℕ, ◌+◌, List, Option, Some, None, if◌then◌else◌}
use Rattle.cam_types.specs.declared.item.Settings.{Settings}
use Rattle.cam_types.specs.declared.reply.Reply.TheVariants.{Configured}
use Rattle.cam_types.specs.declared.script.Script.{Script}
use Rattle.trace_model.specs.declared.entry.Entry.{Entry}
use Rattle.trace_model.specs.declared.entry.Entry.TheVariants.{Call, Send}
use Rattle.trace_model.specs.Calls.{item_at, is_repeating}
use Rattle.trace_model.specs.Frames.{settings_in}

-- What was sent last, entry by entry. Our own choice.

-- how many repeating frames were sent after the last call, where the past before the entry led to the count
abbrev pub repeated_after : ℕ → Script → List Entry → Entry → ℕ
repeated_after count script past (Call _ _ _) = 0
repeated_after count script past (Send _ r _ _ _) = (if is_repeating script past r.0 then 1 else 0) + count
repeated_after count script past _ = count

-- the settings of the last frame, where the past before the entry led to the settings
abbrev pub settings_after : Option Settings → Script → List Entry → Entry → Option Settings
settings_after last script past (Call _ _ (Configured _)) = None
settings_after last script past (Send _ r i _ _) = Some (settings_in (item_at script past r.0 i))
settings_after last script past _ = last
