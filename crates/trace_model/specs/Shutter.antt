use Rattle.std.specs.Prelude.{ℕ, ◌+◌, Bool, ◌&&◌, ◌||◌, not, List, [], ◌∷◌, Option, Some, None, max, find}
use Rattle.cam_types.specs.Limits.{first_shutter, frame_time}
use Rattle.cam_types.specs.declared.script.Script.{Script}
use Rattle.trace_model.specs.declared.entry.Entry.{Entry}
use Rattle.trace_model.specs.declared.entry.Entry.TheVariants.{Shutter}
use Rattle.trace_model.specs.Faults.{device_fault}
use Rattle.trace_model.specs.Frames.{frames, is_sent, each_earlier, has_shutter, has_error_request, has_error, settings_of}
use Rattle.trace_model.specs.Stopping.{is_stopping}

-- When the sensor begins to expose a frame (camera3.h, camera3_shutter_msg: the frame number and the start of the
-- exposure). The times are our own choice.

-- the first shutter is at one second; each next one follows the last by 33,333,333 ns, or its exposure if that is more
abbrev pub next_time : Script → List Entry → ℕ
next_time script [] = first_shutter
next_time script (Shutter n time ∷ past) = time + max frame_time (settings_of script past n.0).exposure
next_time script (_ ∷ past) = next_time script past

-- frame n is the next for the sensor: all before it had their shutter or failed
abbrev pub is_next_for_sensor : ℕ → List Entry → Bool
is_next_for_sensor n past =
    (is_sent n past && (not (has_shutter n past) && not (has_error n past)))
    && each_earlier n (λ m. has_shutter m past || has_error_request m past) past

abbrev pub may_expose : Script → List Entry → ℕ → Bool
may_expose script past n = not (is_stopping past) && (is_next_for_sensor n past && not (device_fault script n))

abbrev pub shutter_at : Script → List Entry → Option ℕ → Option Entry
shutter_at script past (Some n) = Some (Shutter (record { 0 = n }) (next_time script past))
shutter_at script past None = None

-- the shutter that is due
abbrev pub shutter_due : Script → List Entry → Option Entry
shutter_due script past = shutter_at script past (find (may_expose script past) (frames past))
