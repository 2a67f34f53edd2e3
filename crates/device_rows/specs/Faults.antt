use Rattle.std.specs.Prelude.{ℕ, Bool, List, Option}
use Rattle.std.specs.List.{list_any}
use Rattle.std.specs.Option.{option_map}
use Rattle.cam_types.specs.declared.row.RowFaults.{RowFaults}
use Rattle.cam_types.specs.declared.row.RowView.{RowView}
use Rattle.cam_types.specs.declared.row.TargetView.{TargetView}
use Rattle.cam_types.specs.declared.script.Fault.{Fault}
use Rattle.trace_model.specs.Faults.{fails_buffer, fails_device, fails_request, fails_result}

-- The faults that the device has, by frame number (our own choice).

abbrev pub fault_of_request : List Fault → ℕ → Bool
fault_of_request faults n = list_any (fails_request n) faults

abbrev pub fault_of_result : List Fault → ℕ → Bool
fault_of_result faults n = list_any (fails_result n) faults

abbrev pub fault_of_buffer : List Fault → ℕ → ℕ → Bool
fault_of_buffer faults n s = list_any (fails_buffer n s) faults

abbrev pub fault_of_device : List Fault → ℕ → Bool
fault_of_device faults n = list_any (fails_device n) faults

abbrev pub fault_at : List Fault → ℕ → Option TargetView → Option Bool
fault_at faults n target = option_map (λ t. fault_of_buffer faults n t.stream.0) target

-- the faults of a row, by its targets
abbrev pub faults_of : List Fault → RowView → RowFaults
faults_of faults row = record {
  request = fault_of_request faults row.frame.0;
  result = fault_of_result faults row.frame.0;
  buffers = record {
    a = fault_at faults row.frame.0 row.targets.a;
    b = fault_at faults row.frame.0 row.targets.b;
    c = fault_at faults row.frame.0 row.targets.c;
    d = fault_at faults row.frame.0 row.targets.d;
  };
  device = fault_of_device faults row.frame.0;
}
