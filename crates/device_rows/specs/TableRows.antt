use Rattle.std.specs.Prelude.{ℕ, Bool, true, false, ◌&&◌, ◌||◌, ◌==◌, not, nat_lt, if◌then◌else◌, List, [], ◌∷◌, map, Option, Some, None, is_some}
use Rattle.std.specs.List.{filter, find, list_all}
use Rattle.cam_types.specs.declared.four.Four.{Four}
use Rattle.cam_types.specs.declared.row.RowView.{RowView}
use Rattle.cam_types.specs.declared.row.TargetView.{TargetView}
use Rattle.device_rows.specs.declared.table_row.Row.{Row}
use Rattle.device_rows.specs.declared.mark.Mark.{Mark}
use Rattle.device_rows.specs.Marks.{marked}

-- The rows of the open frames, in order of frames, each with what is parked for its targets (camera3.h, S2: the
-- captures that are in flight; that a row keeps the buffers and jobs of its frame is our own choice).

abbrev pub frame_of : {B : Type 0} → Row B → ℕ
frame_of row = row.view.frame.0

-- the row is of this frame
abbrev pub is_of : {B : Type 0} → ℕ → Row B → Bool
is_of frame row = row.view.frame.0 == frame

-- the row of this frame, if it stands
abbrev pub row_of : {B : Type 0} → ℕ → List (Row B) → Option (Row B)
row_of frame rows = find (is_of frame) rows

-- the change at the row of this frame
abbrev pub if_of : {B : Type 0} → ℕ → (Row B → Row B) → Row B → Row B
if_of frame change row = if is_of frame row then change row else row

-- the rows with the one of this frame changed, and the others as they are
abbrev pub with_row : {B : Type 0} → ℕ → (Row B → Row B) → List (Row B) → List (Row B)
with_row frame change rows = map (if_of frame change) rows

-- the rows without the one of this frame
abbrev pub without : {B : Type 0} → ℕ → List (Row B) → List (Row B)
without frame rows = filter (λ row. not (is_of frame row)) rows

abbrev pub view_of : {B : Type 0} → Row B → RowView
view_of row = row.view

-- a row with its view marked
abbrev pub with_mark : {B : Type 0} → Mark → Row B → Row B
with_mark mark row = record row { view = marked mark row.view }

-- ---- what is parked

-- the place has a target of stream s
abbrev pub is_for : ℕ → Option TargetView → Bool
is_for s None = false
is_for s (Some target) = target.stream.0 == s

-- a target of the row is of stream s
abbrev pub has_target : ℕ → Four TargetView → Bool
has_target s targets = is_for s targets.a || (is_for s targets.b || (is_for s targets.c || is_for s targets.d))

-- what is parked for the target of stream s; a row has one target of a stream at most
abbrev pub parked_at : {B : Type 0} → ℕ → Four TargetView → Four B → Option B
parked_at s targets parked =
    if is_for s targets.a then parked.a else
    (if is_for s targets.b then parked.b else
    (if is_for s targets.c then parked.c else
    (if is_for s targets.d then parked.d else None)))

abbrev pub parked_for : {B : Type 0} → ℕ → Row B → Option B
parked_for s row = parked_at s row.view.targets row.parked

-- the same places, with this parked for the target of stream s
abbrev pub placed_at : {B : Type 0} → ℕ → Four TargetView → Option B → Four B → Four B
placed_at s targets thing parked =
    if is_for s targets.a then record parked { a = thing } else
    (if is_for s targets.b then record parked { b = thing } else
    (if is_for s targets.c then record parked { c = thing } else
    (if is_for s targets.d then record parked { d = thing } else parked)))

abbrev pub with_parked : {B : Type 0} → ℕ → Option B → Row B → Row B
with_parked s thing row = record row { parked = placed_at s row.view.targets thing row.parked }

-- the row has a target of stream s, and nothing is parked for it
abbrev pub has_place : {B : Type 0} → ℕ → Row B → Bool
has_place s row = has_target s row.view.targets && not (is_some (parked_for s row))

-- nothing is parked in the row
abbrev pub is_cleared : {B : Type 0} → Row B → Bool
is_cleared row =
    not (is_some row.parked.a)
    && (not (is_some row.parked.b) && (not (is_some row.parked.c) && not (is_some row.parked.d)))

-- there is such a row, and it passes the test
abbrev pub passes : {B : Type 0} → (Row B → Bool) → Option (Row B) → Bool
passes test None = false
passes test (Some row) = test row

-- ---- what a row that is admitted meets

-- each row is of a frame below
abbrev pub are_below : {B : Type 0} → ℕ → List (Row B) → Bool
are_below frame rows = list_all (λ row. nat_lt (frame_of row) frame) rows

-- the target's stream isn't among those of the others
abbrev pub is_apart : Option TargetView → Option TargetView → Bool
is_apart None other = true
is_apart (Some target) other = not (is_for target.stream.0 other)

-- the streams of the targets differ
abbrev pub are_apart : Four TargetView → Bool
are_apart targets =
    (is_apart targets.a targets.b && (is_apart targets.a targets.c && is_apart targets.a targets.d))
    && ((is_apart targets.b targets.c && is_apart targets.b targets.d) && is_apart targets.c targets.d)

abbrev pub are_both : {B : Type 0} → Option TargetView → Option B → Bool
are_both None thing = not (is_some thing)
are_both (Some target) thing = is_some thing

-- one thing for each target, at its place
abbrev pub is_one_each : {B : Type 0} → Four TargetView → Four B → Bool
is_one_each targets parked =
    are_both targets.a parked.a
    && (are_both targets.b parked.b && (are_both targets.c parked.c && are_both targets.d parked.d))

-- nothing is parked where there is no target
abbrev pub is_at_target : {B : Type 0} → Option TargetView → Option B → Bool
is_at_target None thing = not (is_some thing)
is_at_target (Some target) thing = true

-- the streams of the targets differ, and what is parked is parked for a target: so each thing can be taken by its
-- stream
abbrev pub is_in_reach : {B : Type 0} → Four TargetView → Four B → Bool
is_in_reach targets parked =
    are_apart targets
    && (is_at_target targets.a parked.a
    && (is_at_target targets.b parked.b && (is_at_target targets.c parked.c && is_at_target targets.d parked.d)))

abbrev pub is_sound : {B : Type 0} → Row B → Bool
is_sound row = is_in_reach row.view.targets row.parked

-- the frames rise from row to row
abbrev pub are_in_order : {B : Type 0} → List (Row B) → Bool
are_in_order [] = true
are_in_order (row ∷ later) = list_all (λ other. nat_lt (frame_of row) (frame_of other)) later && are_in_order later

-- ---- what a contract sees of a table

-- the rows that stand, and how many may stand at once
pub record Rows (B : Type 0) : Type 0 where
  pub rows : List (Row B)
  pub capacity : ℕ

-- the table with these rows in place of its own: how many may stand stays
abbrev pub with_rows : {B : Type 0} → List (Row B) → Rows B → Rows B
with_rows rows table = record { rows = rows; capacity = table.capacity }
