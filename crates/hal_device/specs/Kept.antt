-- What the device keeps true between two calls (our own choice).
use Rattle.std.specs.Prelude.{◌≡◌, ℕ, ◌==◌, Bool, true, ◌&&◌, ◌||◌, not, List, Option, Some, None, is_none, is_some, slice_get, if◌then◌else◌}
use Rattle.buffer_pool.specs.Blocks.{block_length}
use Rattle.buffer_pool.specs.declared.parked.Parked.{Parked}
use Rattle.cam_types.specs.Picture.{is_offered, picture}
use Rattle.cam_types.specs.Profile.{is_profile}
use Rattle.cam_types.specs.declared.four.Four.{Four}
use Rattle.cam_types.specs.declared.number.BufferId.{BufferId}
use Rattle.cam_types.specs.declared.profile.Profile.{Profile}
use Rattle.cam_types.specs.declared.row.RowView.{RowView}
use Rattle.cam_types.specs.declared.row.TargetView.{TargetView}
use Rattle.device_core.specs.View.{DeviceView, with_plan}
use Rattle.device_rows.specs.Jobs.{is_fill_out}
use Rattle.device_rows.specs.Ready.{is_sensor_out}
use Rattle.cam_types.specs.declared.stream.StreamSpec.{StreamSpec}
use Rattle.device_rows.specs.Rows.{row_at, target_in}
use Rattle.device_core.specs.Stored.{IsParkedWith, are_before}
use Rattle.hal_device_model.specs.State.{HalDeviceState, Spare, Spares, no_spare, streams_in}
use Rattle.hal_device.specs.declared.steps.Delivered.{Delivered}
use Rattle.sha2.specs.Sha256.{sha256}
use Rattle.request_checks.specs.declared.plan.Plan.{Plan}
use Rattle.request_checks.specs.declared.plan.PlanStream.{PlanStream}

-- ---- no job is out, and no buffer waits for a fence of the device's own

abbrev pub rests_at : Option TargetView → Bool
rests_at (Some target) = not (is_fill_out target.state) && is_none target.fence
rests_at None = true

abbrev pub rests : RowView → Bool
rests row =
    not (is_sensor_out row.sensor)
    && ((rests_at row.targets.a && rests_at row.targets.b) && (rests_at row.targets.c && rests_at row.targets.d))

-- ---- the streams of a plan stand from the first place on, and are offered

abbrev pub are_packed : Plan → Bool
are_packed plan =
    ((is_some plan.streams.a || is_none plan.streams.b) && (is_some plan.streams.b || is_none plan.streams.c))
    && (is_some plan.streams.c || is_none plan.streams.d)

abbrev pub is_offered_at : Option PlanStream → Bool
is_offered_at (Some stream) = is_offered stream.spec
is_offered_at None = true

abbrev pub are_offered : Plan → Bool
are_offered plan =
    (is_offered_at plan.streams.a && is_offered_at plan.streams.b)
    && (is_offered_at plan.streams.c && is_offered_at plan.streams.d)

-- ---- blocks

-- the spare blocks that a stream of the plan has at first
abbrev pub spare_by : Option PlanStream → Spare
spare_by (Some stream) = record {
  size = block_length stream.spec.format;
  free = stream.max_buffers;
  room = stream.max_buffers;
}
spare_by None = no_spare

abbrev pub spares_by : Plan → Spares
spares_by plan = record {
  a = spare_by plan.streams.a;
  b = spare_by plan.streams.b;
  c = spare_by plan.streams.c;
  d = spare_by plan.streams.d;
}

-- the blocks have the length that the stream's format wants
abbrev pub is_sized : Option PlanStream → Spare → Bool
is_sized (Some stream) spare = spare.size == block_length stream.spec.format
is_sized None spare = true

abbrev pub are_sized : Plan → Spares → Bool
are_sized plan spares =
    (is_sized plan.streams.a spares.a && is_sized plan.streams.b spares.b)
    && (is_sized plan.streams.c spares.c && is_sized plan.streams.d spares.d)

-- a block of so many bytes is one of stream s
abbrev pub IsSizedAt : ℕ → ℕ → Spares → Type 0
IsSizedAt s bytes spares =
    (s ≡ 0 → bytes ≡ spares.a.size) × (s ≡ 1 → bytes ≡ spares.b.size)
    × (s ≡ 2 → bytes ≡ spares.c.size) × (s ≡ 3 → bytes ≡ spares.d.size)

-- ---- the targets of a request

-- the target is of this stream
abbrev pub is_placed_at : ℕ → Option TargetView → Bool
is_placed_at s (Some target) = target.stream.0 == s
is_placed_at s None = true

abbrev pub are_in_place : Four TargetView → Bool
are_in_place targets =
    (is_placed_at 0 targets.a && is_placed_at 1 targets.b) && (is_placed_at 2 targets.c && is_placed_at 3 targets.d)

-- a target's stream is offered, its blocks have its length, and the target has no fence
abbrev pub Fits : Option PlanStream → Option TargetView → Spare → Type 0
Fits (Some stream) (Some target) spare =
    (is_offered stream.spec ≡ true) × (spare.size ≡ block_length stream.spec.format) × (target.fence ≡ None)
Fits None (Some target) spare = ⊥
Fits stream None spare = Unit {0}

pub record AreFit (plan : Plan) (targets : Four TargetView) (spares : Spares) : Type 0 where
  pub a : Fits plan.streams.a targets.a spares.a
  pub b : Fits plan.streams.b targets.b spares.b
  pub c : Fits plan.streams.c targets.c spares.c
  pub d : Fits plan.streams.d targets.d spares.d

-- the buffer of the target, over a block
abbrev pub IsParkedBy : Option PlanStream → Option TargetView → Option Parked → Type 0
IsParkedBy (Some stream) (Some target) (Some parked) = IsParkedWith stream.spec target parked
IsParkedBy stream None None = Unit {0}
IsParkedBy stream target parked = ⊥

-- ---- a failed buffer that is back: the target's, with its block

abbrev pub IsBlockFor : Option TargetView → Option StreamSpec → BufferId → ℕ → Type 0
IsBlockFor (Some target) (Some spec) buffer bytes = (buffer ≡ target.buffer) × (bytes ≡ block_length spec.format)
IsBlockFor target spec buffer bytes = ⊥

abbrev pub IsBlockAt : List StreamSpec → ℕ → ℕ → List RowView → BufferId → ℕ → Type 0
IsBlockAt specs n s rows buffer bytes = IsBlockFor (target_in n s rows) (slice_get specs s) buffer bytes

-- ---- all together

pub record IsKept (device : DeviceView) (streams : Plan) (limits : Profile) (blocks : Spares) (first : ℕ) : Type 0 where
  pub plan : device.plan ≡ streams
  pub depth : device.capacity ≡ limits.depth
  pub profile : is_profile limits ≡ true
  pub offered : are_offered streams ≡ true
  pub packed : are_packed streams ≡ true
  pub sized : are_sized streams blocks ≡ true
  pub before : are_before first device.rows ≡ true

-- the device with the streams of a plan and these blocks
abbrev pub with_plan_and : Spares → Plan → HalDeviceState → HalDeviceState
with_plan_and blocks plan state = record state { device = with_plan plan state.device; spares = blocks; last = None }

-- ---- what calls answer

-- the stream at a place of the plan
abbrev pub place_at : ℕ → Plan → Option PlanStream
place_at s plan =
    if s == 0 then plan.streams.a
    else (if s == 1 then plan.streams.b
    else (if s == 2 then plan.streams.c
    else (if s == 3 then plan.streams.d else None)))

abbrev pub IsNumberOf : BufferId → Option TargetView → Type 0
IsNumberOf buffer (Some target) = buffer ≡ target.buffer
IsNumberOf buffer None = ⊥

-- the memory shows the picture of frame n for the stream, and the answer has the number of the target's buffer and the
-- picture's digest
abbrev pub IsShown : Option RowView → Option TargetView → Option StreamSpec → List ℕ → Delivered → Type 0
IsShown (Some row) (Some target) (Some spec) memory done =
    (memory ≡ picture spec row.settings row.frame.0)
    × (done.buffer ≡ target.buffer) × (done.digest ≡ sha256 (picture spec row.settings row.frame.0))
IsShown row target spec memory done = ⊥

abbrev pub IsDelivered : ℕ → ℕ → HalDeviceState → List ℕ → Delivered → Type 0
IsDelivered n s state memory done =
    IsShown (row_at n state.device.rows) (target_in n s state.device.rows) (slice_get (streams_in state) s) memory done
