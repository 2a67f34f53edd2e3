-- What comes out of the device is the buffer of the row's target.
use Rattle.std.proofs.Common.{arith, ◌≡◌, ℕ, zero, suc, ◌==◌, Bool, true, false, ◌&&◌, ◌||◌, not, List, [], ◌∷◌, Option, Some, None, refl, sym, ap, ◌∙◌, slice_get, if◌then◌else◌}
use Rattle.std.specs.List.{list_all}
use Rattle.std.specs.Option.{option_map}
use Rattle.std.proofs.lemmas.Bool.{and_from, and_parts}
use Rattle.std.proofs.lemmas.Bool.Decides.{nat_tests}
use Rattle.cam_types.specs.Shown.{Shown}
use Rattle.cam_types.specs.Picture.{is_offered, picture as picture_for}
use Rattle.device_core.proofs.Outs.{picture-buffer}
use Rattle.cam_types.specs.Four.{four_list}
use Rattle.cam_types.specs.declared.number.FenceNo.{FenceNo}
use Rattle.cam_types.specs.declared.row.RowView.{RowView}
use Rattle.cam_types.specs.declared.row.TargetView.{TargetView}
use Rattle.cam_types.specs.declared.row.TargetState.TheVariants.{Waiting}
use Rattle.cam_types.specs.declared.stream.StreamSpec.{StreamSpec}
use Rattle.buffer_manager.specs.Managed.{fence_from}
use Rattle.buffer_pool.specs.declared.parked.Parked.{Parked}
use Rattle.buffer_pool.specs.Fences.{FencesMade, is_signalled}
use Rattle.fill_jobs.specs.Buffers.{IsBufferFor}
use Rattle.trace_model.specs.Picture.{digest, digest_on}
use Rattle.device_rows.specs.Kept.{has_made_fence, have_made_fences, is_made}
use Rattle.device_rows.specs.Ready.{is_passed, is_same_state}
use Rattle.device_rows.specs.Rows.{row_at, target_at, target_in}
use Rattle.device_core.specs.Steps.{IsBackAt, IsBackRow, IsBackTarget, ShowsAt, ShowsRow, ShowsTarget, waiter_kept, waiter_left}
use Rattle.run_rows.specs.Entries.{failed_fence}
use Rattle.run_rows.specs.Kept.{has_given_fences}
use Rattle.service_parts.specs.Moves.{settings_at}
use Rattle.service_parts.specs.Pictures.{picture_on}

pub all-at : (specs : List StreamSpec) (s : ℕ) (spec : StreamSpec) → list_all is_offered specs ≡ true → slice_get specs s ≡ Some spec → is_offered spec ≡ true
all-at [] s spec all at = absurd (cc)
all-at (x ∷ specs) zero spec all at =
    let same : x ≡ spec = cc in
    ap is_offered (sym same) ∙ (and_parts (is_offered x) (list_all is_offered specs) all).0
all-at (x ∷ specs) (suc s) spec all at = all-at specs s spec (and_parts (is_offered x) (list_all is_offered specs) all).1 at

-- ---- a buffer with its picture

pub record IsShownFor (specs : List StreamSpec) (n s : ℕ) (rows : List RowView) (pixels : Shown) (bytes : List ℕ) : Type 0 where
  pub target : TargetView
  pub spec : StreamSpec
  pub found : target_in n s rows ≡ Some target
  pub stream : slice_get specs s ≡ Some spec
  pub whole : IsBufferFor spec target.buffer pixels
  pub picture : bytes ≡ digest_on (slice_get specs s) (settings_at (row_at n rows)) n
  pub shown : pixels.bytes ≡ picture_on (slice_get specs s) (settings_at (row_at n rows)) n

pub found-frame : (n : ℕ) (rows : List RowView) (row : RowView) → row_at n rows ≡ Some row → row.frame.0 ≡ n
found-frame n [] row at = absurd (cc)
found-frame n (other ∷ rows) row at = by (other.frame.0 == n) refl at (found-frame n rows row)
  where
    by : (b : Bool) → (other.frame.0 == n) ≡ b → row_at n (other ∷ rows) ≡ Some row → (row_at n rows ≡ Some row → row.frame.0 ≡ n) → row.frame.0 ≡ n
    by true here found rest = let same : other ≡ row = (let e : Some other ≡ Some row = sym (rw here refl) ∙ found in cc) in (let k : other.frame.0 ≡ n = grind (arith, nat_tests, here) in rw (sym same) k)
    by false here found rest = rest (let e : row_at n rows ≡ Some row = sym (rw here refl) ∙ found in e)

pub shown_for : (specs : List StreamSpec) → list_all is_offered specs ≡ true → (n s : ℕ) (rows : List RowView) (pixels : Shown) (bytes : List ℕ) → ShowsAt specs n s rows pixels bytes → IsShownFor specs n s rows pixels bytes
unfolding digest
shown_for specs offered n s rows pixels bytes shows = by-row (row_at n rows) refl shows
  where
    by-spec : (row : RowView) → row_at n rows ≡ Some row → (target : TargetView) → target_at s row ≡ Some target → (o : Option StreamSpec) → slice_get specs s ≡ o → ShowsTarget row (Some target) o pixels bytes → IsShownFor specs n s rows pixels bytes
    by-spec row at target has (Some spec) is shown = record {
      target = target;
      spec = spec;
      found = rw at has;
      stream = is;
      whole = picture-buffer spec row.settings row.frame.0 target.buffer pixels bytes (all-at specs s spec offered is) shown;
      picture = rw (is, at) (by-frame row.frame.0 (found-frame n rows row at) shown.digested);
      shown = rw (is, at) (shown.bytes ∙ ap (λ (m : ℕ). picture_for spec row.settings m) (found-frame n rows row at));
    }
      where
        by-frame : (m : ℕ) → m ≡ n → bytes ≡ digest spec row.settings m → bytes ≡ digest spec row.settings n
        by-frame m e d = rw (sym e) d
    by-spec row at target has None is shown = absurd shown

    by-target : (row : RowView) → row_at n rows ≡ Some row → (o : Option TargetView) → target_at s row ≡ o → ShowsTarget row o (slice_get specs s) pixels bytes → IsShownFor specs n s rows pixels bytes
    by-target row at (Some target) has shown = by-spec row at target has (slice_get specs s) refl shown
    by-target row at None has shown = absurd shown

    by-row : (o : Option RowView) → row_at n rows ≡ o → ShowsRow specs s o pixels bytes → IsShownFor specs n s rows pixels bytes
    by-row (Some row) at shown = by-target row at (target_at s row) refl shown
    by-row None at shown = absurd shown

-- ---- a buffer in error

pub record IsBackFor (fences : FencesMade) (specs : List StreamSpec) (n s : ℕ) (rows : List RowView) (parked : Parked) : Type 0 where
  pub target : TargetView
  pub spec : StreamSpec
  pub found : target_in n s rows ≡ Some target
  pub stream : slice_get specs s ≡ Some spec
  pub whole : IsBufferFor spec target.buffer parked.pixels
  pub fence : fence_from parked.waiter ≡ failed_fence (λ k. is_signalled k fences) target

left-fence : (fences : FencesMade) (target : TargetView) → fence_from (waiter_left fences target) ≡ failed_fence (λ k. is_signalled k fences) target
left-fence fences target = by (is_same_state target.state Waiting) target.fence
  where
    by : (b : Bool) (o : Option FenceNo) → fence_from (if b then waiter_kept fences (option_map (λ (f : FenceNo). f.0) o) else None) ≡ (if b && not (is_passed (λ k. is_signalled k fences) o) then o else None)
    by false o = refl
    by true None = refl
    by true (Some f) = kept (is_signalled f.0 fences)
      where
        kept : (b : Bool) → fence_from (if b then None else Some f.0) ≡ (if not b then Some f else None)
        kept true = refl
        kept false = refl

pub back_for : (fences : FencesMade) (specs : List StreamSpec) (n s : ℕ) (rows : List RowView) (parked : Parked) → IsBackAt fences specs n s rows parked → IsBackFor fences specs n s rows parked
back_for fences specs n s rows parked back = by-row (row_at n rows) refl back
  where
    by-spec : (row : RowView) → row_at n rows ≡ Some row → (target : TargetView) → target_at s row ≡ Some target → (o : Option StreamSpec) → slice_get specs s ≡ o → IsBackTarget fences (Some target) o parked → IsBackFor fences specs n s rows parked
    by-spec row at target has (Some spec) is it = record {
      target = target;
      spec = spec;
      found = rw at has;
      stream = is;
      whole = it.pixels;
      fence = ap fence_from it.waiter ∙ left-fence fences target;
    }
    by-spec row at target has None is it = absurd it

    by-target : (row : RowView) → row_at n rows ≡ Some row → (o : Option TargetView) → target_at s row ≡ o → IsBackTarget fences o (slice_get specs s) parked → IsBackFor fences specs n s rows parked
    by-target row at (Some target) has it = by-spec row at target has (slice_get specs s) refl it
    by-target row at None has it = absurd it

    by-row : (o : Option RowView) → row_at n rows ≡ o → IsBackRow fences specs s o parked → IsBackFor fences specs n s rows parked
    by-row (Some row) at it = by-target row at (target_at s row) refl it
    by-row None at it = absurd it

-- ---- fences of buffers that wait

pub waiters_made : (made : ℕ) (rows : List RowView) → list_all (has_given_fences made) rows ≡ true → list_all (have_made_fences made) rows ≡ true
waiters_made made [] all = refl
waiters_made made (row ∷ rows) all =
    let parts = and_parts (has_given_fences made row) (list_all (has_given_fences made) rows) all in
    and_from (have_made_fences made row) (list_all (have_made_fences made) rows) (each (four_list row.targets) parts.0) (waiters_made made rows parts.1)
  where
    each : (targets : List TargetView) → list_all (λ target. is_made made target.fence) targets ≡ true → list_all (has_made_fence made) targets ≡ true
    each [] given = refl
    each (target ∷ targets) given =
        let parts = and_parts (is_made made target.fence) (list_all (λ other. is_made made other.fence) targets) given in
        and_from (has_made_fence made target) (list_all (has_made_fence made) targets) (one (not (is_same_state target.state Waiting)) parts.0) (each targets parts.1)
      where
        one : (b : Bool) → is_made made target.fence ≡ true → (b || is_made made target.fence) ≡ true
        one true e = refl
        one false e = e
