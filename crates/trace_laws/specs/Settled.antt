use Rattle.std.specs.Prelude.{ℕ, ◌==◌, Bool, ◌&&◌, List, ◌∷◌, if◌then◌else◌}
use Rattle.std.specs.List.{list_any}
use Rattle.trace_model.specs.declared.entry.Entry.{Entry}
use Rattle.trace_model.specs.declared.entry.Entry.TheVariants.{Early, Late}
use Rattle.trace_model.specs.Entry.{brings}

-- What an entry adds to the device fences of a frame's buffer, and whether the device is done with the buffer by it
-- (camera3.h, process_capture_result and camera3_stream_buffer.release_fence).

-- the device fence is one of these
abbrev pub has_fence : ℕ → List ℕ → Bool
has_fence d fences = list_any (λ f. d == f) fences

-- an early return gives the frame and stream that it names a device fence
abbrev pub gives : ℕ → ℕ → Entry → List ℕ → List ℕ
gives n s (Early m t _ d) fences = if (m.0 == n) && (t.0 == s) then d.0 ∷ fences else fences
gives n s _ fences = fences

-- the device is done with a buffer where it comes back with its picture or failed, or where its device fence is
-- signalled
abbrev pub settles : ℕ → ℕ → Entry → List ℕ → Bool
settles n s (Late d _) fences = has_fence d.0 fences
settles n s e fences = brings n s e
