-- The entries that are allowed after a past, as far as the past determines them, least first: those of each open frame
-- in the order of the frames, the next frame's, and those of no frame. Of one frame, and of none, they stand in the
-- order of docs/CONTRACT.md, the client's and the device's own before fences. (our own choice)
use Rattle.std.specs.Prelude.{ℕ, List, ◌++◌, filter, reverse}
use Rattle.std.specs.List.{flat_map, range_with_len}
use Rattle.cam_types.specs.declared.script.Script.{Script}
use Rattle.trace_model.specs.declared.entry.Entry.{Entry}
use Rattle.trace_model.specs.Client.{begin_due, call_due}
use Rattle.trace_model.specs.Configuration.{buffers_of}
use Rattle.trace_model.specs.Drop.{drop_due}
use Rattle.trace_model.specs.Entry.{is_shutter}
use Rattle.trace_model.specs.Errors.{error_buffer_due, error_device_due, error_request_due, error_result_due, failed_due}
use Rattle.trace_model.specs.Filled.{early_due, filled_due, late_due}
use Rattle.trace_model.specs.Frames.{frames}
use Rattle.trace_model.specs.Numbers.{next_early, next_fence}
use Rattle.trace_model.specs.Open.{is_open}
use Rattle.trace_model.specs.Partial.{partial_due}
use Rattle.trace_model.specs.Release.{release_due, signal_due}
use Rattle.trace_model.specs.Send.{send_due}
use Rattle.trace_model.specs.Shutter.{shutter_due}
use Rattle.allowed_entries.specs.declared.entry.AllowedEntry.{AllowedEntry}
use Rattle.allowed_entries.specs.Known.{shown, shown_where}

-- those of each of the four streams that there can be
abbrev pub by_streams : (ℕ → List AllowedEntry) → List AllowedEntry
by_streams each = each 0 ++ (each 1 ++ (each 2 ++ each 3))

-- ---- of a frame

unfoldable pub of_frame : Script → List Entry → ℕ → List AllowedEntry
of_frame script past n =
    shown_where (is_shutter n) (shutter_due script past)
    ++ (shown (partial_due script past n)
    ++ (by_streams (λ s. shown (filled_due script past n s))
    ++ (by_streams (λ s. shown (early_due script past n s))
    ++ (shown (error_request_due script past n)
    ++ (shown (error_result_due script past n)
    ++ (by_streams (λ s. shown (error_buffer_due script past n s))
    ++ by_streams (λ s. shown (failed_due past n s))))))))

-- the open frames, the oldest first
abbrev pub open_frames : List Entry → List ℕ
open_frames past = reverse (filter (λ n. is_open n past) (frames past))

unfoldable pub of_frames : Script → List Entry → List AllowedEntry
of_frames script past = flat_map (of_frame script past) (open_frames past)

-- ---- of the next frame

unfoldable pub of_next : Script → List Entry → List AllowedEntry
of_next script past = shown (send_due script past) ++ shown (drop_due script past)

-- ---- of no frame

-- the client's next begin or call, and the device's failure
unfoldable pub of_ends : Script → List Entry → List AllowedEntry
of_ends script past =
    shown (begin_due script past) ++ (shown (call_due script past) ++ shown (error_device_due script past))

-- the releases of the configuration's buffers
unfoldable pub of_releases : List Entry → List AllowedEntry
of_releases past = by_streams (λ s. flat_map (λ b. shown (release_due past b)) (buffers_of past s))

-- the signals of the fences that were released
unfoldable pub of_signals : List Entry → List AllowedEntry
of_signals past = flat_map (λ f. shown (signal_due past f)) (range_with_len 0 (next_fence past))

-- those of the device fences with which buffers came back early
unfoldable pub of_lates : Script → List Entry → List AllowedEntry
of_lates script past = flat_map (λ d. shown (late_due script past d)) (range_with_len 0 (next_early past))

-- ---- all of them

unfoldable pub allowed_entries : Script → List Entry → List AllowedEntry
allowed_entries script past =
    of_frames script past
    ++ (of_next script past
    ++ (of_ends script past ++ (of_releases past ++ (of_signals past ++ of_lates script past))))
