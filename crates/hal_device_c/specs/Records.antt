-- What the structs of the header say (pauvigre_device.h).
use Rattle.std.specs.Prelude.{ℕ, ◌==◌, Bool, true, false, ◌&&◌, [], ◌∷◌, Option, Some, None, nat_lt, if◌then◌else◌}
use Rattle.cam_types.specs.declared.item.Settings.{Settings}
use Rattle.cam_types.specs.declared.partial_result.PartialResult.{PartialResult}
use Rattle.cam_types.specs.declared.partial_result.PartialResult.TheVariants.{Look, Light, Time}
use Rattle.cam_types.specs.declared.profile.Profile.{Profile}
use Rattle.cam_types.specs.declared.script.Fault.{Fault}
use Rattle.cam_types.specs.declared.script.Fault.TheVariants.{Request, Result, Buffer, Device}
use Rattle.cam_types.specs.declared.stream.Format.{Format}
use Rattle.cam_types.specs.declared.stream.Format.TheVariants.{Raw16, Yuv, Other}
use Rattle.cam_types.specs.declared.stream.StreamSpec.{StreamSpec}
use Rattle.device_rows.specs.declared.entry.ErrorEntry.{ErrorEntry}
use Rattle.device_rows.specs.declared.entry.ErrorEntry.TheVariants.{Request as LostRequest, Result as LostResult, Buffer as LostBuffer, Device as LostDevice}
use Rattle.hal_device.specs.declared.ready.ReadyRow.{ReadyRow}
use Rattle.hal_device.specs.declared.ready.ReadyTarget.{ReadyTarget}
use Rattle.hal_device_c.specs.declared.records.ErrorRecord.{ErrorRecord}
use Rattle.hal_device_c.specs.declared.records.FaultRecord.{FaultRecord}
use Rattle.hal_device_c.specs.declared.records.MaxBuffersRecord.{MaxBuffersRecord}
use Rattle.hal_device_c.specs.declared.records.PartRecord.{PartRecord}
use Rattle.hal_device_c.specs.declared.records.ProfileRecord.{ProfileRecord}
use Rattle.hal_device_c.specs.declared.records.RowRecord.{RowRecord}
use Rattle.hal_device_c.specs.declared.records.RowTargetRecord.{RowTargetRecord}
use Rattle.hal_device_c.specs.declared.records.SettingsRecord.{SettingsRecord}
use Rattle.hal_device_c.specs.declared.records.StreamRecord.{StreamRecord}
use Rattle.hal_device_c.specs.declared.records.TargetRecord.{TargetRecord}
use Rattle.hal_model.specs.declared.event.HalTarget.{HalTarget}
use Rattle.request_checks.specs.declared.plan.Plan.{Plan}
use Rattle.request_checks.specs.declared.plan.PlanStream.{PlanStream}

-- ---- what C passes

abbrev pub profile_of : ProfileRecord → Profile
profile_of profile = record { depth = profile.depth; raw = profile.raw; yuv = profile.yuv }

-- the kinds 1 to 4
abbrev pub has_kind : FaultRecord → Bool
has_kind fault = nat_lt 0 fault.kind && nat_lt fault.kind 5

abbrev pub fault_of : FaultRecord → Fault
fault_of fault =
    if fault.kind == 1 then Request (record { 0 = fault.frame })
    else (if fault.kind == 2 then Result (record { 0 = fault.frame })
    else (if fault.kind == 3 then Buffer (record { 0 = fault.frame }) (record { 0 = fault.stream })
    else Device (record { 0 = fault.frame })))

-- the framework's numbers of the formats
abbrev pub format_of : ℕ → Format
format_of number = if number == 32 then Raw16 else (if number == 35 then Yuv else Other number)

abbrev pub spec_of : StreamRecord → StreamSpec
spec_of stream = record {
  input = stream.input;
  format = format_of stream.format;
  width = stream.width;
  height = stream.height;
}

abbrev pub settings_of : SettingsRecord → Settings
settings_of settings = record {
  pattern = settings.pattern;
  level = settings.level;
  exposure = settings.exposure;
  iso = settings.iso;
}

-- who calls the device waits for the acquire fence
abbrev pub target_of : TargetRecord → HalTarget
target_of target = record { stream = target.stream; buffer = target.buffer; fence = None }

-- ---- what C is given

abbrev pub settings_record : Settings → SettingsRecord
settings_record settings = record {
  exposure = settings.exposure;
  iso = settings.iso;
  level = settings.level;
  pattern = settings.pattern;
}

-- how many buffers of each stream may be at the device
abbrev pub most_of : Option PlanStream → ℕ
most_of (Some stream) = stream.max_buffers
most_of None = 0

abbrev pub max_buffers_record : Plan → MaxBuffersRecord
max_buffers_record plan = record {
  of = most_of plan.streams.a ∷ most_of plan.streams.b ∷ most_of plan.streams.c ∷ most_of plan.streams.d ∷ [];
}

abbrev pub part_record : ℕ × PartialResult → PartRecord
part_record (number, Look pattern level) =
    record { exposure = 0; timestamp = 0; number = number; level = level; iso = 0; pattern = pattern }
part_record (number, Light exposure iso) =
    record { exposure = exposure; timestamp = 0; number = number; level = 0; iso = iso; pattern = 0 }
part_record (number, Time timestamp) =
    record { exposure = 0; timestamp = timestamp; number = number; level = 0; iso = 0; pattern = 0 }

-- the kinds 1 to 4 (camera3.h, camera3_error_msg_code)
abbrev pub error_record : ErrorEntry → ErrorRecord
error_record LostDevice = record { kind = 1; frame = 0; stream = 0 }
error_record (LostRequest n) = record { kind = 2; frame = n.0; stream = 0 }
error_record (LostResult n) = record { kind = 3; frame = n.0; stream = 0 }
error_record (LostBuffer n s) = record { kind = 4; frame = n.0; stream = s.0 }

abbrev pub row_target : Option ReadyTarget → RowTargetRecord
row_target (Some target) = record {
  buffer = target.buffer.0;
  there = true;
  may_fill = target.may_fill;
  may_deliver = target.may_deliver;
  may_return_failed = target.may_return_failed;
}
row_target None = record {
  buffer = 0;
  there = false;
  may_fill = false;
  may_deliver = false;
  may_return_failed = false;
}

abbrev pub row_record : ReadyRow → RowRecord
row_record row = record {
  frame = row.frame.0;
  may_expose = row.may_expose;
  may_send_part = row.may_send_part;
  may_tell_error = row.may_tell_error;
  targets = row_target row.targets.a ∷ row_target row.targets.b ∷ row_target row.targets.c
      ∷ row_target row.targets.d ∷ [];
}
