use Rattle.std.specs.Prelude.{ℕ, Bool, true, false, ◌&&◌, not, List}
use Rattle.cam_types.specs.declared.script.Script.{Script}
use Rattle.trace_model.specs.declared.entry.Entry.{Entry}
use Rattle.trace_model.specs.declared.entry.Entry.TheVariants.{Begin}
use Rattle.trace_model.specs.Frames.{is_repeating_frame}
use Rattle.trace_model.specs.Open.{is_done}

-- What came after an earlier past. Our own choice.

-- a command begins
abbrev pub is_begin : Entry → Bool
is_begin (Begin _) = true
is_begin _ = false

-- frame n repeats, is done and wasn't done in the earlier past
abbrev pub is_done_since : Script → List Entry → List Entry → ℕ → Bool
is_done_since script past earlier n = is_repeating_frame script past n && (is_done n past && not (is_done n earlier))
