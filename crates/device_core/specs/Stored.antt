use Rattle.std.specs.Prelude.{◌≡◌, ℕ, Bool, true, ◌&&◌, List, [], ◌∷◌, map, Option, Some, None, slice_get, nat_lt}
use Rattle.std.specs.List.{list_all, list_any}
use Rattle.std.specs.Option.{option_map}
use Rattle.buffer_pool.specs.declared.parked.Parked.{Parked}
use Rattle.cam_types.specs.Four.{four_list}
use Rattle.cam_types.specs.declared.four.Four.{Four}
use Rattle.cam_types.specs.declared.row.RowView.{RowView}
use Rattle.cam_types.specs.declared.row.TargetView.{TargetView}
use Rattle.cam_types.specs.declared.stream.StreamSpec.{StreamSpec}
use Rattle.fill_jobs.specs.Buffers.{IsBufferFor}
use Rattle.device_rows.specs.declared.table_row.Row.{Row}
use Rattle.device_rows.specs.TableRows.{row_of, view_of}
use Rattle.request_checks.specs.declared.plan.Plan.{Plan}
use Rattle.request_checks.specs.declared.plan.PlanStream.{PlanStream}

-- The rows of the open frames with all that the device holds for them (our own choice).

abbrev pub spec_of : PlanStream → StreamSpec
spec_of stream = stream.spec

-- the specifications of the plan's streams, in order
abbrev pub specs_of : Plan → List StreamSpec
specs_of plan = map spec_of (four_list plan.streams)

-- the plan, how many rows may stand, and those that stand
pub record Stored : Type 0 where
  pub plan : Plan
  pub capacity : ℕ
  pub rows : List RowView

-- the same with these rows
abbrev pub with_rows : List RowView → Stored → Stored
with_rows rows store = record { plan = store.plan; capacity = store.capacity; rows = rows }

abbrev pub with_plan : Plan → Stored → Stored
with_plan plan store = record { plan = plan; capacity = store.capacity; rows = store.rows }

abbrev pub no_stream : Option PlanStream
no_stream = None

-- the plan without a stream
abbrev pub no_plan : Plan
no_plan = record { streams = record { a = no_stream; b = no_stream; c = no_stream; d = no_stream } }

abbrev pub frame_number : RowView → ℕ
frame_number row = row.frame.0

-- the keys rise
abbrev pub rises : {X : Type 0} → (X → ℕ) → List X → Bool
rises key [] = true
rises key (x ∷ xs) = list_all (λ y. nat_lt (key x) (key y)) xs && rises key xs

-- each row is of an earlier frame
abbrev pub are_before : ℕ → List RowView → Bool
are_before n rows = list_all (λ row. nat_lt row.frame.0 n) rows

-- there is a target
abbrev pub is_some_target : List TargetView → Bool
is_some_target targets = list_any (λ target. true) targets

-- ---- the buffers that come with a request (camera3.h, camera3_stream_buffer)

-- the buffer is the target's, and its waiter is that of the target's acquire fence, where it has one
pub record IsParkedWith (spec : StreamSpec) (target : TargetView) (parked : Parked) : Type 0 where
  pub pixels : IsBufferFor spec target.buffer parked.pixels
  pub waiter : parked.waiter ≡ option_map (λ f. f.0) target.fence

abbrev pub IsParkedIn : Option StreamSpec → TargetView → Parked → Type 0
IsParkedIn (Some spec) target parked = IsParkedWith spec target parked
IsParkedIn None target parked = ⊥

abbrev pub IsParkedAt : List StreamSpec → Option TargetView → Option Parked → Type 0
IsParkedAt specs (Some target) (Some parked) = IsParkedIn (slice_get specs target.stream.0) target parked
IsParkedAt specs None None = Unit {0}
IsParkedAt specs _ _ = ⊥

-- one buffer for each target, at its place
pub record AreParked (specs : List StreamSpec) (targets : Four TargetView) (parked : Four Parked) : Type 0 where
  pub a : IsParkedAt specs targets.a parked.a
  pub b : IsParkedAt specs targets.b parked.b
  pub c : IsParkedAt specs targets.c parked.c
  pub d : IsParkedAt specs targets.d parked.d

-- ---- rows with what is parked for them

-- the rows alone
abbrev pub views : {B : Type 0} → List (Row B) → List RowView
views rows = map view_of rows

-- the row of frame n
abbrev pub find_view : {B : Type 0} → ℕ → List (Row B) → Option RowView
find_view n rows = option_map view_of (row_of n rows)
