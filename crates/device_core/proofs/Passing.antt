-- Tests of a row's target that follow from others.
use Rattle.std.proofs.Common.{◌≡◌, ◌==◌, ℕ, Bool, true, ◌&&◌, List, Option, Some, None, refl}
use Rattle.std.specs.List.{list_all}
use Rattle.std.proofs.lemmas.Bool.{and_parts, or_right}
use Rattle.cam_types.specs.Four.{four_list}
use Rattle.cam_types.specs.declared.row.RowView.{RowView}
use Rattle.cam_types.specs.declared.row.TargetState.TheVariants.{EarlyFilled, Filled, Out, Waiting}
use Rattle.cam_types.specs.declared.row.TargetView.{TargetView}
use Rattle.cam_types.specs.declared.script.Fault.{Fault}
use Rattle.device_rows.specs.Kept.{has_made_fence, have_made_fences, is_made}
use Rattle.device_rows.specs.Ready.{is_delivery_ready, is_early_ready, is_fill_ready, is_finish_ready, is_home, is_passed, is_sound, is_same_state, may_deliver, may_fill, may_go_early, may_return, passes_at, target_passes}
use Rattle.device_rows.specs.Rows.{row_at, target_at}
use Rattle.device_core.specs.Steps.{has_made, is_fillable, is_filled, is_in_fill, is_open_to}
use Rattle.device_core.proofs.General.{find-passes}
use Rattle.buffer_pool.specs.Fences.{FencesMade, is_signalled, made}

passes_less : (p q : TargetView → Bool) (o : Option TargetView) → ((t : TargetView) → p t ≡ true → q t ≡ true) → passes_at p o ≡ true → passes_at q o ≡ true
passes_less p q None less h = absurd (cc)
passes_less p q (Some t) less h = less t h

pub target_passes_less : (p q : RowView → TargetView → Bool) (s : ℕ) (o : Option RowView) → ((row : RowView) (t : TargetView) → p row t ≡ true → q row t ≡ true) → target_passes p s o ≡ true → target_passes q s o ≡ true
target_passes_less p q s None less h = absurd (cc)
target_passes_less p q s (Some row) less h = passes_less (p row) (q row) (target_at s row) (less row) h

-- ---- a buffer that waits has the waiter of a fence that was made

made_at : (k s : ℕ) (row : RowView) (o : Option TargetView) (q : TargetView → Bool) → have_made_fences k row ≡ true → target_at s row ≡ o → passes_at q o ≡ true → passes_at (has_made_fence k) o ≡ true
made_at k s row None q own at h = absurd (cc)
made_at k s row (Some t) q own at h = find-passes (λ t. t.stream.0 == s) (has_made_fence k) (four_list row.targets) t own at

made_in : (k n s : ℕ) (rows : List RowView) (o : Option RowView) (q : RowView → TargetView → Bool) → list_all (have_made_fences k) rows ≡ true → row_at n rows ≡ o → target_passes q s o ≡ true → target_passes (has_made k) s o ≡ true
made_in k n s rows None q all at h = absurd (cc)
made_in k n s rows (Some row) q all at h =
    made_at k s row (target_at s row) (q row) (find-passes (λ v. v.frame.0 == n) (have_made_fences k) rows row all at) refl h

pub made_target : (k n s : ℕ) (rows : List RowView) (q : RowView → TargetView → Bool) → list_all (have_made_fences k) rows ≡ true → target_passes q s (row_at n rows) ≡ true → target_passes (has_made k) s (row_at n rows) ≡ true
made_target k n s rows q all h = made_in k n s rows (row_at n rows) q all refl h

-- ---- a buffer that may be taken

fillable_one : (faults : List Fault) (signalled : ℕ → Bool) (row : RowView) (t : TargetView) → may_fill faults signalled row t ≡ true → is_fillable row t ≡ true
fillable_one faults signalled row t h =
    let a = and_parts (is_sound faults row t && is_same_state t.state Waiting) (is_home row.sensor && is_passed signalled t.fence) h in
    let b = and_parts (is_sound faults row t) (is_same_state t.state Waiting) a.0 in
    let c = and_parts (is_home row.sensor) (is_passed signalled t.fence) a.1 in
    rw (b.1, c.0) refl

pub fillable : (faults : List Fault) (signalled : ℕ → Bool) (rows : List RowView) (n s : ℕ) → is_fill_ready faults signalled rows n s ≡ true → target_passes is_fillable s (row_at n rows) ≡ true
fillable faults signalled rows n s h = target_passes_less (may_fill faults signalled) is_fillable s (row_at n rows) (fillable_one faults signalled) h

open_one : (faults : List Fault) (fences : FencesMade) (row : RowView) (t : TargetView) → may_fill faults (λ f. is_signalled f fences) row t ≡ true → has_made_fence (made fences) t ≡ true → is_open_to fences row t ≡ true
open_one faults fences row t h m =
    let a = and_parts (is_sound faults row t && is_same_state t.state Waiting) (is_home row.sensor && is_passed (λ f. is_signalled f fences) t.fence) h in
    let b = and_parts (is_sound faults row t) (is_same_state t.state Waiting) a.0 in
    let c = and_parts (is_home row.sensor) (is_passed (λ f. is_signalled f fences) t.fence) a.1 in
    let own : is_made (made fences) t.fence ≡ true = rw b.1 at m in
    rw (own, c.1) refl

open_at : (faults : List Fault) (fences : FencesMade) (row : RowView) (o : Option TargetView) → passes_at (may_fill faults (λ f. is_signalled f fences) row) o ≡ true → passes_at (has_made_fence (made fences)) o ≡ true → passes_at (is_open_to fences row) o ≡ true
open_at faults fences row None h m = absurd (cc)
open_at faults fences row (Some t) h m = open_one faults fences row t h m

open_in : (faults : List Fault) (fences : FencesMade) (s : ℕ) (o : Option RowView) → target_passes (may_fill faults (λ f. is_signalled f fences)) s o ≡ true → target_passes (has_made (made fences)) s o ≡ true → target_passes (is_open_to fences) s o ≡ true
open_in faults fences s None h m = absurd (cc)
open_in faults fences s (Some row) h m = open_at faults fences row (target_at s row) h m

pub open_to : (faults : List Fault) (fences : FencesMade) (rows : List RowView) (n s : ℕ) → list_all (have_made_fences (made fences)) rows ≡ true → is_fill_ready faults (λ f. is_signalled f fences) rows n s ≡ true → target_passes (is_open_to fences) s (row_at n rows) ≡ true
open_to faults fences rows n s all h =
    open_in faults fences s (row_at n rows) h (made_target (made fences) n s rows (may_fill faults (λ f. is_signalled f fences)) all h)

-- ---- a buffer that may come back with its picture, or early

pub filled_to_deliver : (faults : List Fault) (rows : List RowView) (n s : ℕ) → is_delivery_ready faults rows n s ≡ true → target_passes is_filled s (row_at n rows) ≡ true
filled_to_deliver faults rows n s h =
    target_passes_less (may_deliver faults rows) is_filled s (row_at n rows) (λ row t h. rw (and_parts (is_same_state t.state Filled) (may_return faults rows row t) h).0 refl) h

pub filled_to_finish : (rows : List RowView) (n s : ℕ) → is_finish_ready rows n s ≡ true → target_passes is_filled s (row_at n rows) ≡ true
filled_to_finish rows n s h =
    target_passes_less (λ row t. is_same_state t.state EarlyFilled) is_filled s (row_at n rows) (λ row t h. or_right (is_same_state t.state Filled) (is_same_state t.state EarlyFilled) h) h

pub in_fill : (faults : List Fault) (rows : List RowView) (n s : ℕ) → is_early_ready faults rows n s ≡ true → target_passes is_in_fill s (row_at n rows) ≡ true
in_fill faults rows n s h =
    target_passes_less (may_go_early faults rows) is_in_fill s (row_at n rows) (λ row t h. (and_parts (is_same_state t.state Out) (may_return faults rows row t) h).0) h
