use Rattle.std.specs.Prelude.{ℕ, List, [], Option, Some, None, map, slice_get, if◌then◌else◌}
use Rattle.cam_types.specs.Picture.{picture}
use Rattle.cam_types.specs.declared.item.Settings.{Settings}
use Rattle.cam_types.specs.declared.script.Script.{Script}
use Rattle.cam_types.specs.declared.stream.StreamSpec.{StreamSpec}
use Rattle.trace_model.specs.declared.entry.Entry.{Entry}
use Rattle.trace_model.specs.declared.entry.Entry.TheVariants.{Filled, Early}
use Rattle.trace_model.specs.Configuration.{streams}
use Rattle.trace_model.specs.Fence.{is_late}
use Rattle.trace_model.specs.Frames.{settings_of}
use Rattle.trace_model.specs.Place.{last_naming}
use Rattle.state_facts.specs.Homes.{numbers}

-- The pictures that the client has (camera3.h, process_capture_result: a buffer without an error is filled;
-- camera3_stream_buffer.release_fence: one with a fence is filled when that is signalled).

-- the picture of frame n on a stream
abbrev pub picture_on : Option StreamSpec → Settings → ℕ → List ℕ
picture_on (Some spec) s n = picture spec s n
picture_on None s n = []

-- the picture of frame n for stream s of the configuration, whose SHA-256 is `digest_of` of trace_model
abbrev pub picture_of : Script → List Entry → ℕ → ℕ → List ℕ
picture_of script past n s = picture_on (slice_get (streams script past) s) (settings_of script past n) n

-- the picture in a buffer whose last entry is this: that of the frame with which it came back, once it is there
abbrev pub picture_after : Script → List Entry → Option Entry → Option (List ℕ)
picture_after script past (Some (Filled n s _ _ _)) = Some (picture_of script past n.0 s.0)
picture_after script past (Some (Early n s _ d)) =
    if is_late d.0 past then Some (picture_of script past n.0 s.0) else None
picture_after script past _ = None

-- the picture that the client has in buffer b; none where it hasn't the buffer, or the picture isn't there
abbrev pub client_picture : Script → List Entry → ℕ → Option (List ℕ)
client_picture script past b = picture_after script past (last_naming b past)

-- that of each of the configuration's buffers
abbrev pub pictures : Script → List Entry → List (Option (List ℕ))
pictures script past = map (λ b. client_picture script past b) (numbers past)
