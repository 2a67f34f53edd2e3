use Rattle.std.specs.Prelude.{◌≡◌, ℕ, Bool, true, false, ◌&&◌, ◌≤◌, if◌then◌else◌, List, [], ◌∷◌, ◌++◌, min, Option, Some, None, option_to_list, All, Contains}
use Rattle.std.specs.Option.{option_map}
use Rattle.cam_types.specs.declared.four.Four.{Four}
use Rattle.cam_types.specs.declared.number.FrameNo.{FrameNo}
use Rattle.cam_types.specs.declared.row.RowView.{RowView}
use Rattle.cam_types.specs.declared.row.TargetView.{TargetView}
use Rattle.cam_types.specs.declared.row.RowVerdict.{RowVerdict}
use Rattle.cam_types.specs.declared.row.RowVerdict.TheVariants.{Request, Parts, Nothing}
use Rattle.device_rows.specs.declared.entry.ErrorEntry.{ErrorEntry}
use Rattle.device_rows.specs.declared.entry.ErrorEntry.TheVariants.{Request as WholeRequest, Result as LostMetadata, Buffer as LostBuffer, Device}

-- Which error of a frame is told next (camera3.h, S6 and flush, points 2 and 3). The header asks that a capture that
-- failed whole has no other error, and that each missing buffer has one of its own. That the metadata comes before the
-- buffers, and these in the order of their streams, is our own choice.

-- the stream of a target whose buffer the verdict names as missing
abbrev pub missing_at : Option Bool → Option TargetView → Option ℕ
missing_at (Some true) (Some target) = Some target.stream.0
missing_at (Some true) None = None
missing_at (Some false) target = None
missing_at None target = None

-- the streams of all such targets; in which order the targets stand plays no part in what follows
abbrev pub missing_streams : Four Bool → Four TargetView → List ℕ
missing_streams missing targets =
    option_to_list (missing_at missing.a targets.a)
    ++ (option_to_list (missing_at missing.b targets.b)
    ++ (option_to_list (missing_at missing.c targets.c) ++ option_to_list (missing_at missing.d targets.d)))

abbrev pub lesser : ℕ → Option ℕ → ℕ
lesser s None = s
lesser s (Some t) = min s t

-- the least of the streams, if there is one
abbrev pub least : List ℕ → Option ℕ
least [] = None
least (s ∷ others) = Some (lesser s (least others))

-- it is one of the streams, and none is below it
pub record IsLeast (s : ℕ) (streams : List ℕ) : Type 0 where
  pub one_of : Contains streams s
  pub none_below : All (λ t. s ≤ t) streams

abbrev pub lost_buffer : FrameNo → ℕ → ErrorEntry
lost_buffer frame s = LostBuffer frame (record { 0 = s })

-- the next error of the row's frame: that of the whole request alone; else that of the metadata, if its turn has come;
-- else that of the least stream
abbrev pub next_due : RowView → RowVerdict → Bool → Option ErrorEntry
next_due row Request may_end = Some (WholeRequest row.frame)
next_due row (Parts metadata buffers) may_end =
    if metadata && may_end then Some (LostMetadata row.frame)
    else option_map (lost_buffer row.frame) (least (missing_streams buffers row.targets))
next_due row Nothing may_end = None

-- the frame that an error is of
abbrev pub error_frame : ErrorEntry → Option FrameNo
error_frame (WholeRequest frame) = Some frame
error_frame (LostMetadata frame) = Some frame
error_frame (LostBuffer frame stream) = Some frame
error_frame Device = None

-- none of the errors that the verdict names may be told: that of the metadata waits for its turn, and no buffer is
-- named
abbrev pub IsNothingDue : Four TargetView → RowVerdict → Bool → Type 0
IsNothingDue targets Request may_end = ⊥
IsNothingDue targets (Parts metadata buffers) may_end =
    ((metadata && may_end) ≡ false) × (missing_streams buffers targets ≡ [])
IsNothingDue targets Nothing may_end = Unit {0}

-- the verdict names the stream's buffer, and none of a stream below it
abbrev pub IsLeastNamed : ℕ → Four TargetView → RowVerdict → Type 0
IsLeastNamed s targets Request = ⊥
IsLeastNamed s targets (Parts metadata buffers) = IsLeast s (missing_streams buffers targets)
IsLeastNamed s targets Nothing = ⊥

-- the lesser of two, where one may be missing
abbrev pub lesser_of : Option ℕ → Option ℕ → Option ℕ
lesser_of None others = others
lesser_of (Some s) others = Some (lesser s others)
