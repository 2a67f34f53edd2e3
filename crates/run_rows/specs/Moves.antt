use Rattle.std.specs.Prelude.{◌&&◌, List, Option}
use Rattle.std.specs.Option.{option_map}
use Rattle.cam_types.specs.declared.number.FrameNo.{FrameNo}
use Rattle.cam_types.specs.declared.number.StreamIx.{StreamIx}
use Rattle.cam_types.specs.declared.row.RowView.{RowView}
use Rattle.cam_types.specs.declared.script.Script.{Script}
use Rattle.trace_model.specs.declared.entry.Entry.{Entry}
use Rattle.trace_model.specs.Fence.{is_signalled}
use Rattle.trace_model.specs.Numbers.{next_early}
use Rattle.trace_model.specs.Open.{early_fences}
use Rattle.trace_model.specs.Picture.{digest_of}
use Rattle.run_model.specs.declared.step.Move.{Move}
use Rattle.run_model.specs.declared.step.StepName.TheVariants.{ReturnFailed, Deliver, Early, Finish}
use Rattle.run_model.specs.Ready.{adding, where_entry}
use Rattle.device_rows.specs.Ready.{is_delivery_ready, is_early_ready, is_failed_return_ready, is_finish_ready}
use Rattle.device_rows.specs.Rows.{target_in}
use Rattle.run_rows.specs.Entries.{early_entry, failed_entry, filled_entry, finish_entry}

-- The moves of the steps that give a buffer back, by what the rows say.

abbrev pub delivery_move : Script → List Entry → List RowView → FrameNo → StreamIx → Option Move
delivery_move script past rows n s =
    adding (Deliver n s)
    (where_entry (is_delivery_ready script.faults rows n.0 s.0)
    (option_map (filled_entry (digest_of script past n.0 s.0) n.0 s.0) (target_in n.0 s.0 rows)))

-- only in a script that has early returns, with the next device fence
abbrev pub early_move : Script → List Entry → List RowView → FrameNo → StreamIx → Option Move
early_move script past rows n s =
    adding (Early n s)
    (where_entry (script.early && is_early_ready script.faults rows n.0 s.0)
    (option_map (early_entry (next_early past) n.0 s.0) (target_in n.0 s.0 rows)))

abbrev pub failed_move : List Entry → List RowView → FrameNo → StreamIx → Option Move
failed_move past rows n s =
    adding (ReturnFailed n s)
    (where_entry (is_failed_return_ready rows n.0 s.0)
    (option_map (failed_entry (λ f. is_signalled f past) n.0 s.0) (target_in n.0 s.0 rows)))

-- the signal of the device fence with which the buffer came back early
abbrev pub finish_move : Script → List Entry → List RowView → FrameNo → StreamIx → Option Move
finish_move script past rows n s =
    adding (Finish n s)
    (where_entry (is_finish_ready rows n.0 s.0)
    (finish_entry (digest_of script past n.0 s.0) (early_fences n.0 s.0 past)))
