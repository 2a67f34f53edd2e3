-- The same, read from the state that a legal past comes to. (our own choice: proved to be the same)
use Rattle.std.specs.Prelude.{ℕ, List, ◌++◌, Option, length, map}
use Rattle.std.specs.List.{flat_map, range_with_len}
use Rattle.cam_types.specs.declared.script.Script.{Script}
use Rattle.trace_model.specs.declared.entry.Entry.{Entry}
use Rattle.trace_model.specs.Entry.{is_shutter}
use Rattle.state_facts.specs.Homes.{Homes, release_in, signal_in, stream_in}
use Rattle.state_facts.specs.Replies.{begin_in, call_in}
use Rattle.state_facts.specs.FrameReadings.{is_none_left}
use Rattle.state_facts.specs.States.{State, drop_in, early_in, error_buffer_in, error_device_in, error_request_in, error_result_in, failed_in, filled_in, late_in, partial_in, send_in, shutter_in}
use Rattle.allowed_entries.specs.declared.buffers.BufferEntry.{BufferEntry}
use Rattle.allowed_entries.specs.declared.buffers.BufferEntry.TheVariants.{Picture, Early, Error, Failure}
use Rattle.allowed_entries.specs.declared.entry.AllowedEntry.{AllowedEntry}
use Rattle.allowed_entries.specs.Entries.{by_streams}
use Rattle.allowed_entries.specs.Known.{shown, shown_where}

-- the entry of a kind that is due of frame n's buffer for stream t
abbrev pub buffer_in : Script → State → ℕ → BufferEntry → ℕ → Option Entry
buffer_in script s n Picture t = filled_in script s n t
buffer_in script s n Early t = early_in script s n t
buffer_in script s n Error t = error_buffer_in script s n t
buffer_in script s n Failure t = failed_in s n t

-- those of all its buffers
unfoldable pub buffers_in : Script → State → ℕ → BufferEntry → List AllowedEntry
buffers_in script s n kind = by_streams (λ t. shown (buffer_in script s n kind t))

unfoldable pub frame_in : Script → State → ℕ → List AllowedEntry
frame_in script s n =
    shown_where (is_shutter n) (shutter_in script s)
    ++ (shown (partial_in script s n)
    ++ (buffers_in script s n Picture
    ++ (buffers_in script s n Early
    ++ (shown (error_request_in script s n)
    ++ (shown (error_result_in script s n)
    ++ (buffers_in script s n Error ++ buffers_in script s n Failure))))))

-- those of the frames of rows
unfoldable pub frames_in : Script → State → List ℕ → List AllowedEntry
frames_in script s numbers = flat_map (frame_in script s) numbers

unfoldable pub next_in : Script → State → List AllowedEntry
next_in script s = shown (send_in script s) ++ shown (drop_in s)

unfoldable pub ends_in : Script → State → List AllowedEntry
ends_in script s =
    shown (begin_in script s.client)
    ++ (shown (call_in script (is_none_left s.rows) s.client s.queue s.buffers) ++ shown (error_device_in script s))

unfoldable pub releases_in : Homes → List AllowedEntry
releases_in h = by_streams (λ t. flat_map (λ b. shown (release_in h b)) (stream_in h t))

unfoldable pub signals_in : Homes → ℕ → List AllowedEntry
signals_in h count = flat_map (λ f. shown (signal_in h f)) (range_with_len 0 count)

unfoldable pub lates_in : State → ℕ → List AllowedEntry
lates_in s count = flat_map (λ d. shown (late_in s d)) (range_with_len 0 count)

-- all of them, where so many fences were released
unfoldable pub all_in : Script → State → ℕ → List AllowedEntry
all_in script s fences =
    frames_in script s (map (λ r. r.number) s.rows)
    ++ (next_in script s
    ++ (ends_in script s
    ++ (releases_in s.buffers ++ (signals_in s.buffers fences ++ lates_in s (length s.buffers.late)))))
