use Rattle.std.proofs.Common.{◌≡◌, ◌↔◌, ℕ, Bool, true, false, ◌&&◌, cond, List, [], ◌∷◌, Option, Some, None, IsNone, IfSome, refl, ap}
use Rattle.std.specs.Option.{option_map}
use Rattle.cam_types.specs.declared.number.FrameNo.{FrameNo}
use Rattle.cam_types.specs.declared.number.StreamIx.{StreamIx}
use Rattle.cam_types.specs.declared.row.RowView.{RowView}
use Rattle.cam_types.specs.declared.row.RowVerdict.{RowVerdict}
use Rattle.cam_types.specs.declared.row.RowVerdict.TheVariants.{Request, Parts, Nothing}
use Rattle.device_rows.specs.declared.entry.ErrorEntry.{ErrorEntry}
use Rattle.device_rows.specs.declared.entry.ErrorEntry.TheVariants.{Result as LostMetadata, Buffer as LostBuffer}
use Rattle.device_rows.specs.Next.{error_frame, IsLeast, IsLeastNamed, IsNothingDue, least, lesser, lost_buffer, missing_streams, next_due}
use Rattle.device_rows.proofs.LeastLemmas.{least-is}

none-parts : (frame : FrameNo) (b : Bool) (ss : List ℕ) → IsNone (cond b (Some (LostMetadata frame)) (option_map (lost_buffer frame) (least ss))) ↔ ((b ≡ false) × (ss ≡ []))
none-parts frame true ss = (λ n. absurd (cc), λ e. absurd (cc))
none-parts frame false [] = (λ n. (refl, refl), λ e. refl)
none-parts frame false (s ∷ ss) = (λ n. absurd (cc), λ e. absurd (cc))

-- there is no next error exactly where nothing is due
none-of : (row : RowView) (v : RowVerdict) (m : Bool) → IsNone (next_due row v m) ↔ IsNothingDue row.targets v m
none-of row Request m = (λ n. absurd (cc), λ f. absurd f)
none-of row (Parts metadata buffers) m = none-parts row.frame (metadata && m) (missing_streams buffers row.targets)
none-of row Nothing m = (λ n. tt, λ u. refl)

least-parts : (frame : FrameNo) (b : Bool) (ss : List ℕ) (f : FrameNo) (s : StreamIx) → cond b (Some (LostMetadata frame)) (option_map (lost_buffer frame) (least ss)) ≡ Some (LostBuffer f s) → IsLeast s.0 ss
least-parts frame true ss f s h = absurd (cc)
least-parts frame false [] f s h = absurd (cc)
least-parts frame false (x ∷ xs) f s h =
    let e : record { 0 = lesser x (least xs) } ≡ s = cc in
    least-is (x ∷ xs) s.0 (ap (λ (z : StreamIx). Some z.0) e)

-- and where it is a buffer's, that one is the least
least-of : (row : RowView) (v : RowVerdict) (m : Bool) (f : FrameNo) (s : StreamIx) → next_due row v m ≡ Some (LostBuffer f s) → IsLeastNamed s.0 row.targets v
least-of row Request m f s h = absurd (cc)
least-of row (Parts metadata buffers) m f s h = least-parts row.frame (metadata && m) (missing_streams buffers row.targets) f s h
least-of row Nothing m f s h = absurd (cc)

own-buffer : (frame : FrameNo) (o : Option ℕ) → IfSome (option_map (lost_buffer frame) o) (λ e. error_frame e ≡ Some frame)
own-buffer frame None = tt
own-buffer frame (Some s) = refl

own-parts : (frame : FrameNo) (b : Bool) (o : Option ℕ) → IfSome (cond b (Some (LostMetadata frame)) (option_map (lost_buffer frame) o)) (λ e. error_frame e ≡ Some frame)
own-parts frame true o = refl
own-parts frame false o = own-buffer frame o

-- and it is of the row's frame
own-of : (row : RowView) (v : RowVerdict) (m : Bool) → IfSome (next_due row v m) (λ e. error_frame e ≡ Some row.frame)
own-of row Request m = refl
own-of row (Parts metadata buffers) m = own-parts row.frame (metadata && m) (least (missing_streams buffers row.targets))
own-of row Nothing m = tt

-- the same of what is known to be the next error
pub none-due : (row : RowView) (v : RowVerdict) (m : Bool) (r : Option ErrorEntry) → r ≡ next_due row v m → IsNone r ↔ IsNothingDue row.targets v m
none-due row v m r e = rw e (none-of row v m)

pub least-due : (row : RowView) (v : RowVerdict) (m : Bool) (r : Option ErrorEntry) → r ≡ next_due row v m → (f : FrameNo) (s : StreamIx) → r ≡ Some (LostBuffer f s) → IsLeastNamed s.0 row.targets v
least-due row v m r e f s h = least-of row v m f s (rw e at h)

pub own-due : (row : RowView) (v : RowVerdict) (m : Bool) (r : Option ErrorEntry) → r ≡ next_due row v m → IfSome r (λ e. error_frame e ≡ Some row.frame)
own-due row v m r e = rw e (own-of row v m)
