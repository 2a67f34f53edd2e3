-- What a contract sees of the device behind camera3_device_t (our own choice).
use Rattle.std.specs.Prelude.{ℕ, ◌+◌, ◌-◌, ◌==◌, Bool, false, List, [], Option, Some, None, slice_get, nat_lt, if◌then◌else◌}
use Rattle.buffer_pool.specs.Blocks.{block_length}
use Rattle.cam_types.specs.Profile.{max_buffers}
use Rattle.cam_types.specs.declared.item.Settings.{Settings}
use Rattle.cam_types.specs.declared.profile.Profile.{Profile}
use Rattle.cam_types.specs.declared.row.RowView.{RowView}
use Rattle.cam_types.specs.declared.script.Fault.{Fault}
use Rattle.cam_types.specs.declared.stream.StreamSpec.{StreamSpec}
use Rattle.device_core.specs.View.{DeviceView, with_rows}
use Rattle.device_core.specs.Stored.{no_plan, specs_of}

-- the spare blocks of a stream: the bytes of each, how many there are, and how many there is room for
pub record Spare : Type 0 where
  pub size : ℕ
  pub free : ℕ
  pub room : ℕ

-- one is lent; one is back, or let go where there is no room
abbrev pub lent : Spare → Spare
lent spare = record spare { free = spare.free - 1 }

abbrev pub back : Spare → Spare
back spare = record spare { free = if nat_lt spare.free spare.room then spare.free + 1 else spare.free }

-- those of the streams 0 to 3
pub record Spares : Type 0 where
  pub a : Spare
  pub b : Spare
  pub c : Spare
  pub d : Spare

abbrev pub no_spare : Spare
no_spare = record { size = 0; free = 0; room = 0 }

abbrev pub no_spares : Spares
no_spares = record { a = no_spare; b = no_spare; c = no_spare; d = no_spare }

abbrev pub back_at : ℕ → Spares → Spares
back_at s spares = record {
  a = if s == 0 then back spares.a else spares.a;
  b = if s == 1 then back spares.b else spares.b;
  c = if s == 2 then back spares.c else spares.c;
  d = if s == 3 then back spares.d else spares.d;
}

-- a stream has as many blocks as its buffers may be at the device, each for the largest picture of the format
abbrev pub spare_for : Profile → Option StreamSpec → Spare
spare_for profile (Some spec) = record {
  size = block_length spec.format;
  free = max_buffers profile spec.format;
  room = max_buffers profile spec.format;
}
spare_for profile None = no_spare

abbrev pub spares_for : Profile → List StreamSpec → Spares
spares_for profile specs = record {
  a = spare_for profile (slice_get specs 0);
  b = spare_for profile (slice_get specs 1);
  c = spare_for profile (slice_get specs 2);
  d = spare_for profile (slice_get specs 3);
}

-- the device with its rows, its spare blocks, whether `initialize` was called, whether the device failed, whether a
-- flush is under way and whether the close has begun, the settings that were accepted last since the configuration, and
-- the first frame number that may still come
pub record HalDeviceState : Type 0 where
  pub profile : Profile
  pub device : DeviceView
  pub spares : Spares
  pub initialized : Bool
  pub failed : Bool
  pub flushing : Bool
  pub closing : Bool
  pub last : Option Settings
  pub next : ℕ

-- as it is opened
abbrev pub opened : Profile → List Fault → HalDeviceState
opened profile faults = record {
  profile = profile;
  device = record { plan = no_plan; faults = faults; capacity = profile.depth; rows = [] };
  spares = no_spares;
  initialized = false;
  failed = false;
  flushing = false;
  closing = false;
  last = None;
  next = 0;
}

-- the same with these rows, and with these rows and spare blocks
abbrev pub in_rows : List RowView → HalDeviceState → HalDeviceState
in_rows rows state = record state { device = with_rows rows state.device }

abbrev pub in_rows_with : Spares → List RowView → HalDeviceState → HalDeviceState
in_rows_with spares rows state = record state { device = with_rows rows state.device; spares = spares }

-- the configured streams
abbrev pub streams_in : HalDeviceState → List StreamSpec
streams_in state = specs_of state.device.plan
