-- A change of one frame's row, after which the row goes if its frame is done.
use Rattle.std.proofs.Common.{◌≡◌, ℕ, ◌==◌, Bool, true, false, ◌&&◌, ◌||◌, List, [], ◌∷◌, Option, Some, None, refl, ap, ◌∙◌, filter, is_none, nat_lt, if◌then◌else◌}
use Rattle.std.specs.List.{list_all}
use Rattle.std.proofs.lemmas.Bool.{and_from, and_parts}
use Rattle.cam_types.specs.Rows.{is_open}
use Rattle.cam_types.specs.declared.number.FrameNo.{FrameNo}
use Rattle.cam_types.specs.declared.row.RowView.{RowView}
use Rattle.device_rows.specs.Ready.{is_retire_ready}
use Rattle.device_rows.specs.Rows.{row_at, with_row}
use Rattle.run_rows.specs.Kept.{frames_rise}
use Rattle.service_parts.specs.After.{ends_by, repeats_in}
use Rattle.service_state.specs.Serving.{left}
use Rattle.service_state.proofs.Ends.{ended, is_other_open}

-- the change leaves the row's frame
abbrev pub KeepsFrame : (RowView → RowView) → Type 0
KeepsFrame f = (row : RowView) → (f row).frame ≡ row.frame

abbrev changed : ℕ → (RowView → RowView) → RowView → RowView
changed n f row = if row.frame.0 == n then f row else row

frame-of : (n : ℕ) (f : RowView → RowView) → KeepsFrame f → (row : RowView) → (changed n f row).frame ≡ row.frame
frame-of n f keeps row = by (row.frame.0 == n)
  where
    by : (b : Bool) → (if b then f row else row).frame ≡ row.frame
    by true = keeps row
    by false = refl

rise-with : (n : ℕ) (f : RowView → RowView) → KeepsFrame f → (rows : List RowView) → frames_rise rows ≡ true → frames_rise (with_row n f rows) ≡ true
rise-with n f keeps [] rise = refl
rise-with n f keeps (row ∷ rows) rise =
    let parts = and_parts (list_all (λ other. nat_lt row.frame.0 other.frame.0) rows) (frames_rise rows) rise in
    and_from (list_all (λ other. nat_lt (changed n f row).frame.0 other.frame.0) (with_row n f rows)) (frames_rise (with_row n f rows))
    (later rows parts.0) (rise-with n f keeps rows parts.1)
  where
    later : (others : List RowView) → list_all (λ other. nat_lt row.frame.0 other.frame.0) others ≡ true → list_all (λ other. nat_lt (changed n f row).frame.0 other.frame.0) (with_row n f others) ≡ true
    later [] all = refl
    later (other ∷ others) all =
        let parts = and_parts (nat_lt row.frame.0 other.frame.0) (list_all (λ other. nat_lt row.frame.0 other.frame.0) others) all in
        let one : nat_lt (changed n f row).frame.0 (changed n f other).frame.0 ≡ true = rw (frame-of n f keeps row, frame-of n f keeps other) parts.0 in
        and_from (nat_lt (changed n f row).frame.0 (changed n f other).frame.0) (list_all (λ other. nat_lt (changed n f row).frame.0 other.frame.0) (with_row n f others)) one (later others parts.1)

open-with : (n : ℕ) (f : RowView → RowView) → KeepsFrame f → (rows : List RowView) → list_all is_open rows ≡ true → list_all (is_other_open n) (with_row n f rows) ≡ true
open-with n f keeps [] all = refl
open-with n f keeps (row ∷ rows) all =
    let parts = and_parts (is_open row) (list_all is_open rows) all in
    and_from (is_other_open n (changed n f row)) (list_all (is_other_open n) (with_row n f rows)) (one (row.frame.0 == n) refl parts.0) (open-with n f keeps rows parts.1)
  where
    one : (b : Bool) → (row.frame.0 == n) ≡ b → is_open row ≡ true → is_other_open n (changed n f row) ≡ true
    one true here stands = rw here (let same : ((f row).frame.0 == n) ≡ true = rw (keeps row) here in rw same refl)
    one false other stands = rw other (rw (other, stands) refl)

none-with : (n : ℕ) (f : RowView → RowView) → KeepsFrame f → (rows : List RowView) → is_none (row_at n (with_row n f rows)) ≡ is_none (row_at n rows)
none-with n f keeps [] = refl
none-with n f keeps (row ∷ rows) = by (row.frame.0 == n) refl (none-with n f keeps rows)
  where
    by : (b : Bool) → (row.frame.0 == n) ≡ b → is_none (row_at n (with_row n f rows)) ≡ is_none (row_at n rows) → is_none (row_at n (with_row n f (row ∷ rows))) ≡ is_none (row_at n (row ∷ rows))
    by true here rest = let same : ((f row).frame.0 == n) ≡ true = rw (keeps row) here in rw here (rw same refl)
    by false other rest = rw other (rw other rest)

-- ---- the rows after such a change, and whether the frame ended

pub ending_rows : (n : ℕ) (f : RowView → RowView) → KeepsFrame f → (rows : List RowView) → list_all is_open rows ≡ true → frames_rise rows ≡ true → filter is_open (with_row n f rows) ≡ left n (with_row n f rows)
ending_rows n f keeps rows all rise = (ended n (with_row n f rows) (rise-with n f keeps rows rise) (open-with n f keeps rows all)).0

pub ending_ends : (n : FrameNo) (f : RowView → RowView) → KeepsFrame f → (kinds : List Bool) (rows : List RowView) → list_all is_open rows ≡ true → frames_rise rows ≡ true → ends_by kinds rows (filter is_open (with_row n.0 f rows)) (Some n) ≡ (repeats_in kinds (row_at n.0 rows) && is_retire_ready (with_row n.0 f rows) n.0)
ending_ends n f keeps kinds rows all rise =
    let left-none = (ended n.0 (with_row n.0 f rows) (rise-with n.0 f keeps rows rise) (open-with n.0 f keeps rows all)).1 in
    by (row_at n.0 rows) refl left-none (none-with n.0 f keeps rows)
  where
    by : (o : Option RowView) → row_at n.0 rows ≡ o → is_none (row_at n.0 (filter is_open (with_row n.0 f rows))) ≡ (is_none (row_at n.0 (with_row n.0 f rows)) || is_retire_ready (with_row n.0 f rows) n.0) → is_none (row_at n.0 (with_row n.0 f rows)) ≡ is_none (row_at n.0 rows) → ends_by kinds rows (filter is_open (with_row n.0 f rows)) (Some n) ≡ (repeats_in kinds (row_at n.0 rows) && is_retire_ready (with_row n.0 f rows) n.0)
    by (Some row) at a b = let c : is_none (row_at n.0 (with_row n.0 f rows)) ≡ false = b ∙ ap is_none at in rw (at, a, c) refl
    by None at a b = rw at refl
