use Rattle.std.specs.Prelude.{List, [], ◌∷◌, ◌++◌, Bool, true, false, Option, Some, None, if◌then◌else◌}
use Rattle.std.specs.Option.{option_map}
use Rattle.cam_types.specs.declared.four.Four.{Four}
use Rattle.cam_types.specs.declared.item.Settings.{Settings}
use Rattle.cam_types.specs.declared.number.FrameNo.{FrameNo}
use Rattle.cam_types.specs.declared.number.RequestId.{RequestId}
use Rattle.cam_types.specs.declared.row.RowView.{RowView}
use Rattle.cam_types.specs.declared.row.SensorPlace.TheVariants.{NotYet}
use Rattle.cam_types.specs.declared.row.TargetState.TheVariants.{Waiting}
use Rattle.cam_types.specs.declared.row.TargetView.{TargetView}
use Rattle.trace_model.specs.declared.entry.Entry.{Entry}
use Rattle.trace_model.specs.declared.entry.Entry.TheVariants.{Begin, Send, Shutter, Partial, Filled, Failed, ErrorRequest, ErrorResult, ErrorBuffer, ErrorDevice, Early, Late}
use Rattle.trace_model.specs.declared.entry.Sent.{Sent}
use Rattle.trace_model.specs.Entry.{is_stop_word}
use Rattle.run_model.specs.declared.step.Move.{Move}
use Rattle.run_model.specs.declared.step.StepName.{StepName}
use Rattle.run_model.specs.declared.step.StepName.TheVariants.{SensorDone, TakeFill, FillDone, Finish}
use Rattle.device_rows.specs.declared.entry.ErrorEntry.TheVariants.{Request, Result, Buffer, Device}
use Rattle.device_rows.specs.Rows.{all_stopped, delivered, exposed, fill_begun, fill_ended, gone_early, returned_failed, sensor_home, with_error, with_part, with_row}

-- What each move of a run makes of the device's rows, before those that are done with go.

-- a target as it is sent
abbrev pub fresh_target : Sent → TargetView
fresh_target t = record { stream = t.stream; buffer = t.buffer; fence = t.fence; announced = false; state = Waiting }

abbrev pub fresh_targets : Four Sent → Four TargetView
fresh_targets targets = record {
  a = option_map fresh_target targets.a;
  b = option_map fresh_target targets.b;
  c = option_map fresh_target targets.c;
  d = option_map fresh_target targets.d;
}

-- the row of a frame as it is sent: nothing of it began
abbrev pub fresh_row : Settings → FrameNo → RequestId → Four Sent → RowView
fresh_row settings n request targets = record {
  frame = n;
  request = request;
  settings = settings;
  targets = fresh_targets targets;
  shutter = None;
  parts = 0;
  request_error = false;
  result_error = false;
  sensor = NotYet;
  stopped = false;
}

-- after an entry; a send is of an item with these settings
abbrev pub after_entry : Settings → Entry → List RowView → List RowView
after_entry settings (Send n request _ _ targets) rows = rows ++ fresh_row settings n request targets ∷ []
after_entry settings (Shutter n time) rows = with_row n.0 (exposed time) rows
after_entry settings (Partial n k _) rows = with_row n.0 (with_part k) rows
after_entry settings (Filled n s _ _ _) rows = with_row n.0 (delivered s) rows
after_entry settings (Failed n s _ _) rows = with_row n.0 (returned_failed s) rows
after_entry settings (Early n s _ _) rows = with_row n.0 (gone_early s) rows
after_entry settings (ErrorRequest n) rows = with_error (Request n) rows
after_entry settings (ErrorResult n) rows = with_error (Result n) rows
after_entry settings (ErrorBuffer n s) rows = with_error (Buffer n s) rows
after_entry settings ErrorDevice rows = with_error Device rows
after_entry settings (Begin word) rows = if is_stop_word word then all_stopped rows else rows
after_entry settings _ rows = rows

abbrev pub after_given : Settings → Option Entry → List RowView → List RowView
after_given settings (Some e) rows = after_entry settings e rows
after_given settings None rows = rows

-- after a step, by the step itself where its entry doesn't name the frame
abbrev pub after_step : Settings → StepName → Option Entry → List RowView → List RowView
after_step settings (SensorDone n) entry rows = with_row n.0 sensor_home rows
after_step settings (TakeFill n s) entry rows = with_row n.0 (fill_begun s) rows
after_step settings (FillDone n s) entry rows = with_row n.0 (fill_ended s) rows
after_step settings (Finish n s) entry rows = with_row n.0 (delivered s) rows
after_step settings _ entry rows = after_given settings entry rows

-- after a move
abbrev pub after : Settings → Move → List RowView → List RowView
after settings m rows = after_step settings m.step m.entry rows

-- ---- which moves can end a frame (camera3.h, process_capture_result)

-- the entry may be the last of its frame: metadata that ends, or a buffer with which the device is done
abbrev pub may_end : Option Entry → Bool
may_end (Some (Partial _ _ _)) = true
may_end (Some (Filled _ _ _ _ _)) = true
may_end (Some (Failed _ _ _ _)) = true
may_end (Some (ErrorRequest _)) = true
may_end (Some (ErrorResult _)) = true
may_end (Some (Late _ _)) = true
may_end _ = false
