use Rattle.std.specs.Prelude.{ℕ, ◌==◌, Bool, false, ◌&&◌, ◌||◌, not, List, Option, Some, None, find, if◌then◌else◌}
use Rattle.std.specs.List.{list_all, list_any}
use Rattle.logical_call.specs.declared.pair.PairEnd.{PairEnd}
use Rattle.logical_call.specs.declared.pair.PairEnd.TheVariants.{Ok, Error, Drop}
use Rattle.logical_call.specs.Taken.{drops}
use Rattle.trace_model.specs.declared.entry.Entry.{Entry}
use Rattle.trace_model.specs.declared.entry.Entry.TheVariants.{Dropped, Partial, Filled, Failed, ErrorRequest, ErrorResult, Early, Late}
use Rattle.trace_model.specs.Entry.{is_early_with}
use Rattle.trace_model.specs.Frames.{is_sent, targets_of}
use Rattle.trace_model.specs.Open.{has_part, is_open}

-- How a frame ends in one camera, and in two that are run side by side (our own choice).

abbrev pub is_dropped : ℕ → List Entry → Bool
is_dropped n past = list_any (drops n) past

-- frame n ended: it was dropped, or sent and isn't open
abbrev pub is_ended : ℕ → List Entry → Bool
is_ended n past = is_dropped n past || (is_sent n past && not (is_open n past))

abbrev pub early_frame : Option Entry → Option ℕ
early_frame (Some (Early n _ _ _)) = Some n.0
early_frame _ = None

-- the one frame that the entry may end
abbrev pub frame_of : List Entry → Entry → Option ℕ
frame_of past (Dropped n _ _) = Some n.0
frame_of past (Partial n _ _) = Some n.0
frame_of past (Filled n _ _ _ _) = Some n.0
frame_of past (Failed n _ _ _) = Some n.0
frame_of past (ErrorRequest n) = Some n.0
frame_of past (ErrorResult n) = Some n.0
frame_of past (Late d _) = early_frame (find (is_early_with d.0) past)
frame_of past _ = None

-- the entry gives back the buffer of frame n for stream s with its picture
abbrev pub fills : ℕ → ℕ → Entry → Bool
fills n s (Filled m t _ _ _) = (m.0 == n) && (t.0 == s)
fills n s _ = false

-- all buffers of frame n came back with their pictures
abbrev pub all_filled : ℕ → List Entry → Bool
all_filled n past = list_all (λ t. list_any (fills n t.stream.0) past) (targets_of n past)

-- frame n was captured whole: its last part came, and all its pictures
abbrev pub is_whole : ℕ → List Entry → Bool
is_whole n past = has_part n 3 past && all_filled n past

-- how frame n ended in both
abbrev pub pair_end : ℕ → List Entry → List Entry → PairEnd
pair_end n one two =
    if is_whole n one && is_whole n two then Ok
    else (if is_dropped n one && is_dropped n two then Drop else Error)
