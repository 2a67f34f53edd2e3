use Rattle.std.specs.Prelude.{ℕ, Bool, false, ◌&&◌, ◌||◌, List, [], ◌∷◌, Option, Some, None}
use Rattle.std.specs.List.{list_any}
use Rattle.cam_types.specs.declared.script.Word.{Word}
use Rattle.trace_model.specs.declared.entry.Entry.{Entry}
use Rattle.trace_model.specs.Calls.{begun}
use Rattle.trace_model.specs.Entry.{is_stop, is_stop_word, is_error_device}
use Rattle.trace_model.specs.Frames.{is_sent}

-- Stopping: a flush or a disconnect has begun and isn't answered, or the device failed (camera3.h, flush; S6).

abbrev pub stops_by : Option Word → Bool
stops_by (Some word) = is_stop_word word
stops_by None = false

abbrev pub has_failed : List Entry → Bool
has_failed past = list_any is_error_device past

abbrev pub is_stopping : List Entry → Bool
is_stopping past = stops_by (begun past) || has_failed past

-- frame n is stopped: a flush or a disconnect began, or the device failed, after it was sent
abbrev pub is_stopped : ℕ → List Entry → Bool
is_stopped n [] = false
is_stopped n (e ∷ past) = (is_stop e && is_sent n past) || is_stopped n past
