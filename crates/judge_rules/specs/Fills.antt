use Rattle.std.specs.Prelude.{◌≡◌, ℕ, ◌==◌, Bool, false, ◌&&◌, not, List, Option, Some, None, is_some, find, if◌then◌else◌}
use Rattle.cam_types.specs.declared.number.FenceNo.{FenceNo}
use Rattle.cam_types.specs.declared.number.FrameNo.{FrameNo}
use Rattle.cam_types.specs.declared.number.StreamIx.{StreamIx}
use Rattle.cam_types.specs.declared.script.Script.{Script}
use Rattle.trace_model.specs.declared.entry.Entry.{Entry}
use Rattle.trace_model.specs.declared.entry.Entry.TheVariants.{Early}
use Rattle.trace_model.specs.declared.entry.Sent.{Sent}
use Rattle.trace_model.specs.Entry.{is_early_with}
use Rattle.trace_model.specs.Fence.{is_late}
use Rattle.trace_model.specs.Filled.{may_deliver}
use Rattle.trace_model.specs.Frames.{target_of}
use Rattle.trace_model.specs.Numbers.{next_early}
use Rattle.trace_model.specs.Picture.{digest_of}

-- Whether a filled buffer is the one that is due, but for its digest (our own choice): it is proved to say, with the
-- digest, what `trace_model` says of the entry.

abbrev pub delivers_as : Script → List Entry → ℕ → ℕ → ℕ → Option Sent → Bool
delivers_as script past n s b (Some t) = may_deliver script past n s t && (t.buffer.0 == b)
delivers_as script past n s b None = false

-- the buffer is that of the frame's target, which may be delivered
abbrev pub delivers : Script → List Entry → ℕ → ℕ → ℕ → Bool
delivers script past n s b = delivers_as script past n s b (target_of n s past)

-- ... and it needs no fence
abbrev pub fills : Script → List Entry → ℕ → ℕ → ℕ → Option FenceNo → Bool
fills script past n s b f = not (is_some f) && delivers script past n s b

-- ---- early returns

-- ... the script has early returns, and the device fence is the next
abbrev pub returns_early : Script → List Entry → ℕ → ℕ → ℕ → ℕ → Bool
returns_early script past n s b d = (script.early && (next_early past == d)) && delivers script past n s b

-- the frame and the stream of an early return
abbrev pub early_in : Option Entry → Option (FrameNo × StreamIx)
early_in (Some (Early n s _ _)) = Some (n, s)
early_in _ = None

-- the frame and the stream whose picture is due with the signal of device fence d: a buffer came back early with it,
-- and it isn't signalled
abbrev pub fills_late : List Entry → ℕ → Option (FrameNo × StreamIx)
fills_late past d = if is_late d past then None else early_in (find (is_early_with d) past)

-- the digest is that of the frame's picture for the stream, where there are such
abbrev pub is_digest_in : Script → List Entry → Option (FrameNo × StreamIx) → List ℕ → Type 0
is_digest_in script past (Some which) digest = digest ≡ digest_of script past which.0.0 which.1.0
is_digest_in script past None digest = ⊥
